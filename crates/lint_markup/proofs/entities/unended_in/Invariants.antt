use Rattle.std.proofs.Common.{◌≡◌, length}
use denote.Text.{Utf8}
use denote.Shadow.{shadow}
use Rattle.lint_findings.specs.Entities as e
use Rattle.lint_markup.proofs.entities.unended_in.Given as goal

-- none was found so far
abbrev pub invariant-loop-place : goal.invariant-loop-place
invariant-loop-place l = shadow (Utf8 l.rest) × (e.unended_in l.rest ≡ e.unended_in l.text)

abbrev pub decreases-loop-place : goal.decreases-loop-place
decreases-loop-place l = length l.rest
