use Rattle.std.proofs.Common.{◌-◌, length}
use Rattle.lint_texts.proofs.PartSteps.{IsPlainTo}
use Rattle.lint_texts.proofs.parts.first_tag.Given as goal

-- no tag so far
abbrev pub invariant-loop-next : goal.invariant-loop-next
invariant-loop-next l = IsPlainTo l.text l.place

abbrev pub decreases-loop-next : goal.decreases-loop-next
decreases-loop-next l = length l.text - l.place
