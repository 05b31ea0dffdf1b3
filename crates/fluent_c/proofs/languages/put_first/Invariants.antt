use Rattle.std.proofs.Common.{◌≡◌, ◌++◌, ◌-◌, ◌≤◌, drop, length, take}
use Rattle.fluent_c.proofs.languages.put_first.Given as goal

abbrev pub decreases-loop-at : goal.decreases-loop-at
decreases-loop-at l = length l.initial.places - l.at

-- the numbers before the place are in
abbrev pub invariant-loop-at : goal.invariant-loop-at
invariant-loop-at l = record {
  within : l.at ≤ length l.numbers;
  room : l.at ≤ length l.places;
  put : l.places ≡ take l.at l.numbers ++ drop l.at l.initial.places;
}
