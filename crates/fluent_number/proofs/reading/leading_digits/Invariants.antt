use Rattle.fluent_number.proofs.Worth.{AreLeading}
use Rattle.fluent_number.proofs.reading.leading_digits.Given as goal

-- what was passed are digits, and is worth this
abbrev pub invariant-loop-count : goal.invariant-loop-count
invariant-loop-count l = AreLeading l.text l.count l.worth
