use Rattle.std.proofs.Common.{◌∙◌, ap, sym, subst}
use Rattle.std.proofs.lemmas.Result.{on_ok_weaker}
use Rattle.fluent_ast.specs.Borrowed.{entry_of}
use Rattle.lint_entries.specs.AttributePlaces.{uncommented}
use Rattle.lint_entries.specs.Made.{Adds}
use Rattle.fluent_ids.specs.IdsView.{ids_view}
use Rattle.lint_entries.specs.Kept.{entry_part}
use Rattle.lint_entries.specs.TileView.{tile_view}
use Rattle.lint_comparison.specs.Missing.{missing_of_part}
use Rattle.lint_comparison.proofs.missing.push_missing.Goals as goal

pub returns-in_ok-missing-in-Message : goal.returns-in_ok-missing-in-Message
returns-in_ok-missing-in-Message c =
    let missing_by = missing_of_part (ids_view (Unit {0}) c.args.ids.now) c.args.source.now in
    let part = ap (λ tile. missing_by (tile_view tile)) c.in-Entry.is
    ∙ ap (λ entry. missing_by (entry_part c.in-Entry.text.now (uncommented (entry_of entry)))) c.in-Message.is in
    on_ok_weaker c.push_found.result
    (subst (Adds c.args.found.now c.push_found.new.findings) (c.in_ok-missing-in-Message.ensures 0 ∙ sym part))
    c.push_found.ensures
