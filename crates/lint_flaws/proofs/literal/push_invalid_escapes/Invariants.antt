use Rattle.std.proofs.Common.{◌≡◌, ◌++◌, map, length}
use denote.Text.{Utf8}
use denote.Shadow.{shadow}
use Rattle.lint_findings.specs.Escapes.{invalid_escapes}
use Rattle.lint_flaws.proofs.literal.push_invalid_escapes.Given as goal

abbrev pub invariant-loop-place : goal.invariant-loop-place
invariant-loop-place l =
    shadow (Utf8 l.rest)
    × (map (λ s. s.now) l.found.items ++ invalid_escapes l.rest ≡ map (λ s. s.now) l.initial.found.items ++ invalid_escapes l.initial.rest)

abbrev pub decreases-loop-place : goal.decreases-loop-place
decreases-loop-place l = length l.rest
