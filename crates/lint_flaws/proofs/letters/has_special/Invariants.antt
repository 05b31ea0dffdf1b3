use Rattle.std.proofs.Common.{◌≡◌, drop}
use Rattle.lint_flaws.specs.Special.{has_special}
use Rattle.lint_flaws.proofs.letters.has_special.Given as goal

-- none so far
abbrev pub invariant-loop-place : goal.invariant-loop-place
invariant-loop-place l = has_special (drop l.place l.text) ≡ has_special l.text
