use Rattle.fluent_number.proofs.Worth.{AreShortLeading}
use Rattle.fluent_date.proofs.reading.leading_digits.Given as goal

-- what was passed are digits, and is worth this
abbrev pub invariant-loop-count : goal.invariant-loop-count
invariant-loop-count l = AreShortLeading l.text l.count l.worth
