use Rattle.std.proofs.Common.{◌≡◌, length}
use denote.Text.{Utf8}
use denote.Shadow.{shadow}
use Rattle.lint_findings.specs.Quoted.{quoted, quoted_in}
use Rattle.lint_flaws.proofs.quoted.first_quoted.Given as goal

-- none was found so far
abbrev pub invariant-loop-place : goal.invariant-loop-place
invariant-loop-place l = shadow (Utf8 l.rest) × (quoted_in (length l.raw) l.rest ≡ quoted l.raw)

abbrev pub decreases-loop-place : goal.decreases-loop-place
decreases-loop-place l = length l.rest
