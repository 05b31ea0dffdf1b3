use Rattle.std.proofs.Common.{◌≡◌, suc, drop}
use Rattle.fluent_date_tables.specs.Parts.{skipped}
use Rattle.fluent_date_tables.proofs.parts.after_bar.Given as goal

-- what is left to be skipped of the rest leaves what is to be left of the whole
abbrev pub invariant-loop-at : goal.invariant-loop-at
invariant-loop-at l = skipped (drop l.at l.text) (suc l.left) ≡ skipped l.text (suc l.number)
