use Rattle.std.proofs.Common.{◌≡◌, ◌∙◌, ◌++◌, ap, ap₂, map, subst, sym}
use Rattle.std.proofs.lemmas.Result.{on_ok_weaker}
use Rattle.fluent_ast.specs.Borrowed.{entry_of, message_of}
use Rattle.fluent_grammar.specs.Tree as t
use Rattle.fluent_ids.specs.IdsView.{ids_view}
use Rattle.fluent_meaning.specs.Ids.{Ids}
use Rattle.lint_entries.specs.AttributePlaces.{uncommented}
use Rattle.lint_entries.specs.Kept.{entry_part}
use Rattle.lint_entries.specs.Made.{Adds}
use Rattle.lint_entries.specs.TileView.{tile_view}
use Rattle.lint_findings.specs.View.{finding_view}
use Rattle.lint_findings.specs.ComparisonFindings.{message_findings}
use Rattle.fluent_lint.specs.Own.{compared_in, shown_view}
use Rattle.fluent_lint.specs.Shown.{compared_by, either_ids, has_both}
use Rattle.fluent_lint.proofs.Uncommented.{without_comment}
use Rattle.fluent_lint.proofs.differences.push_difference.Goals as goal

pub returns-in-Message : goal.returns-in-Message
returns-in-Message c =
    let file = c.args.file in
    let other = c.args.original in
    let source = file.tiles.now.file.source.now in
    let own = ids_view (Unit {0}) file.ids.now in
    let theirs = ids_view (Unit {0}) other.ids.now in
    let text = c.in-Entry.text.now in
    let added = c.compare_message.new.findings in
    let e = uncommented (t.message (message_of c.in-Message.message)) in
    let both = has_both theirs e in
    let found = λ (ids reference : Ids (Unit {0})). message_findings ids reference c.args.plurals source e text in
    let mine_are : ids_view (Unit {0}) c.compared_ids.result.now ≡ either_ids both (shown_view file) own =
    c.compared_ids.ensures ∙ ap (λ both. either_ids both (shown_view file) own) c.has_message-is_both.ensures in
    let theirs_are : ids_view (Unit {0}) c.compared_ids-in-Message.result.now ≡ either_ids both (shown_view other) theirs =
    c.compared_ids-in-Message.ensures ∙ ap (λ both. either_ids both (shown_view other) theirs) c.has_message-is_both.ensures in
    on_ok_weaker c.compare_message.result
    (λ adds. let same : Adds c.args.findings.now added (found (ids_view (Unit {0}) c.compared_ids.result.now) (ids_view (Unit {0}) c.compared_ids-in-Message.result.now)) =
    adds ∙ ap (λ fs. map finding_view c.args.findings.now.items ++ fs)
    (without_comment (ids_view (Unit {0}) c.compared_ids.result.now) (ids_view (Unit {0}) c.compared_ids-in-Message.result.now) c.args.plurals source text (message_of c.in-Message.message)) in
    let by_both : Adds c.args.findings.now added (compared_by c.args.plurals (shown_view file) (shown_view other) own theirs source text e) =
    same ∙ ap (λ fs. map finding_view c.args.findings.now.items ++ fs) (ap₂ found mine_are theirs_are) in
    subst (λ tile. Adds c.args.findings.now added (compared_in c.args.plurals file other (tile_view tile))) (sym c.in-Entry.is)
    (subst (λ entry. Adds c.args.findings.now added (compared_in c.args.plurals file other (entry_part text (uncommented (entry_of entry))))) (sym c.in-Message.is) by_both))
    c.compare_message.ensures
