use Rattle.std.proofs.Common.{◌≡◌, ◌++◌, map, length}
use denote.Text.{Utf8}
use denote.Shadow.{shadow}
use Rattle.lint_findings.specs.Numbers as n
use Rattle.lint_texts.proofs.parts.plain_parts.Given as goal

abbrev pub invariant-loop-place : goal.invariant-loop-place
invariant-loop-place l = shadow (Utf8 l.rest) × (map (λ s. s.now) l.parts.items ++ n.plain_parts l.rest ≡ n.plain_parts l.text)

abbrev pub decreases-loop-place : goal.decreases-loop-place
decreases-loop-place l = length l.rest
