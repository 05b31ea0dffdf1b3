use Rattle.std.proofs.Common.{◌≡◌, ◌++◌, ◌-◌, ◌≤◌, false, map, drop, length}
use Rattle.lint_findings.specs.Numbers as n
use Rattle.lint_texts.specs.InCode.{number_view}
use Rattle.lint_texts.proofs.numbers.push_part.Given as goal

-- those before this place were added
abbrev pub invariant-loop-place : goal.invariant-loop-place
invariant-loop-place l =
    (l.place ≤ length l.part)
    × (map number_view l.found.items ++ n.numbers_from false 0 (drop l.place l.part) ≡ map number_view l.initial.found.items ++ n.numbers_from false 0 l.part)

abbrev pub decreases-loop-place : goal.decreases-loop-place
decreases-loop-place l = length l.part - l.place
