use Rattle.std.proofs.Common.{◌≡◌, drop}
use Rattle.lint_findings.specs.Typing as t
use Rattle.lint_texts.proofs.quotes.has_inches.Given as goal

-- there are none so far
abbrev pub invariant-loop-place : goal.invariant-loop-place
invariant-loop-place l = t.has_inches (drop l.place l.text) ≡ t.has_inches l.text
