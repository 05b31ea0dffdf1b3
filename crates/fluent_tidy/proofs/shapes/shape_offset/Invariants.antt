use Rattle.std.proofs.Common.{ℕ, length}
use Rattle.fluent_tidy.specs.Reasons.{IsFirstShape}
use Rattle.fluent_tidy.proofs.shapes.shape_offset.Given as goal

-- what is first of the parts that are left is first of all
abbrev pub invariant-loop-start : goal.invariant-loop-start
invariant-loop-start l = (offset : ℕ) → IsFirstShape l.source l.left offset → IsFirstShape l.source l.starts offset

abbrev pub decreases-loop-start : goal.decreases-loop-start
decreases-loop-start l = length l.left
