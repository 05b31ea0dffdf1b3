use Rattle.std.proofs.Common.{◌≡◌, ◌-◌, drop, length}
use Rattle.lint_findings.specs.Encodings.{spelled_first}
use Rattle.lint_flaws.proofs.encodings.first_spelled.Given as goal

-- nothing is spelled so far
abbrev pub invariant-loop-next : goal.invariant-loop-next
invariant-loop-next l = spelled_first l.place (drop l.place l.text) ≡ spelled_first 0 l.text

abbrev pub decreases-loop-next : goal.decreases-loop-next
decreases-loop-next l = length l.text - l.place
