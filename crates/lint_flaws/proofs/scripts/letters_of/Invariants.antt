use Rattle.std.proofs.Common.{◌≡◌, ◌++◌, ◌-◌, ◌≤◌, drop, length, map}
use Rattle.lint_findings.specs.Scripts as s
use Rattle.lint_flaws.specs.Letters.{letter_view}
use Rattle.lint_flaws.proofs.scripts.letters_of.Given as goal

abbrev pub invariant-loop-letter : goal.invariant-loop-letter
invariant-loop-letter l =
    (l.before ≤ length l.text)
    × (map letter_view l.letters.items ++ s.letters_at l.before (drop l.before l.text) ≡ s.letters_at 0 l.text)

abbrev pub decreases-loop-letter : goal.decreases-loop-letter
decreases-loop-letter l = length l.text - l.before
