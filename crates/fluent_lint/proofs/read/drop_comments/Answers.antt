use Rattle.std.proofs.Common.{◌+◌, ◌++◌, ◌∙◌, ap, sym, arith, map, take, drop}
use Rattle.std.proofs.lemmas.List.{map-set, length-map}
use Rattle.std.proofs.Math.ListN.{get_or-map}
use Rattle.fluent_ast.specs.Borrowed.{entry_of}
use Rattle.lint_entries.specs.AttributePlaces.{uncommented}
use Rattle.fluent_lint.proofs.Lists.{one_changed}
use Rattle.fluent_lint.proofs.read.drop_comments.Goals as goal

pub loop-entry-preserved : goal.loop-entry-preserved
loop-entry-preserved c =
    let es = c.loop-entry.entries in
    let i = c.loop-entry.entry-index in
    let d = c.entry-item.result in
    ap (λ z. take (i + 1) z ++ map uncommented (drop (i + 1) z)) (map-set entry_of es i c.drop_comment.new.entry)
    ∙ one_changed uncommented (map entry_of es) i (entry_of d) (entry_of c.drop_comment.new.entry) (omega (arith, length-map es entry_of, c.loop-entry-test.true))
    (c.drop_comment.ensures ∙ ap uncommented (sym (get_or-map entry_of es i d)))
    ∙ c.loop-entry.invariant
