use Rattle.std.proofs.Common.{◌≡◌, map, take}
use Rattle.fluent_ast.proofs.Comment.try_clone.Given as goal

abbrev pub invariant-loop-line : goal.invariant-loop-line
invariant-loop-line g l = map g.S.Slice.text l.content.items ≡ map g.S.Slice.text (take l.line-index l.line-items)
