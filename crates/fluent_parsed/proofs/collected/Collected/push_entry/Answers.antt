use Rattle.std.proofs.Common.{◌∙◌, ◌++◌, ◌∷◌, [], None, map, option_map, ap}
use Rattle.std.proofs.lemmas.List.{map-append}
use Rattle.fluent_grammar.specs.Tiling.{entries_of, waiting}
use Rattle.fluent_ast.specs.View.{comment_view, entry_view}
use Rattle.fluent_parsed.specs.Collected.{body_of, held_by}
use Rattle.fluent_parsed.proofs.CollectedEntries.{appended_twice, entries-other}
use Rattle.fluent_parsed.proofs.collected.Collected.push_entry.Goals as goal

pub returns-in-Term-clause-entries : goal.returns-in-Term-clause-entries
returns-in-Term-clause-entries g c = rw c.in-Term.is c.push_term.ensures.entries

pub returns-in_ok-push-in_default-clause-entries : goal.returns-in_ok-push-in_default-clause-entries
returns-in_ok-push-in_default-clause-entries g c = λ text_of pieces.
    let S = g.row.S.Denot in
    let view = entry_view S text_of in
    let old = c.args.self.now in
    let added = c.args.added in
    let held = held_by S text_of old in
    let body = ap (map view) c.in_ok-push-in_default.ensures.items ∙ map-append view c.push_comment-in_default.new.self.body.items (added ∷ []) ∙ ap (λ es. es ++ view added ∷ []) (c.in_ok-push_comment-in_default.ensures.body text_of) in
    let more = entries-other S text_of held c.args.apart added pieces c.in_default.not-Message c.in_default.not-Term c.in_default.not-Comment in
    ap (λ h. map view c.push.new.self.items ++ entries_of (option_map (comment_view S text_of) h) pieces) c.in_ok-push_comment-in_default.ensures.comment
    ∙ appended_twice (map view c.push.new.self.items) (body_of S text_of old) (waiting held) (view added) (entries_of None pieces) _ body more
