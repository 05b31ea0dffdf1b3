use Rattle.std.proofs.Common.{◌≡◌, ◌≤◌, if◌then◌else◌, drop, length}
use Rattle.lint_findings.specs.Addresses as a
use Rattle.lint_texts.proofs.addresses.labels_place.Given as goal

-- how many dots were passed so far
abbrev pub invariant-loop-place : goal.invariant-loop-place
invariant-loop-place l = (l.place ≤ length l.host) × (a.dots (drop l.place l.host) ≡ (if l.is_dotted then 1 else 0))

abbrev pub decreases-loop-place : goal.decreases-loop-place
decreases-loop-place l = l.place
