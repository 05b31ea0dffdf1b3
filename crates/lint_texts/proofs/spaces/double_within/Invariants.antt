use Rattle.std.proofs.Common.{◌≡◌, false, drop}
use Rattle.lint_findings.specs.Typing as t
use Rattle.lint_texts.proofs.spaces.double_within.Given as goal

-- none so far
abbrev pub invariant-loop-place : goal.invariant-loop-place
invariant-loop-place l = t.spaces_after (t.counts l.all) l.before (drop l.place l.text) ≡ t.spaces_after (t.counts l.all) false l.text
