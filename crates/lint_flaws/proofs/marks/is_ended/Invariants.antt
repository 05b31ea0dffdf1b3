use Rattle.std.proofs.Common.{◌≡◌, drop}
use Rattle.lint_findings.specs.Letters.{is_ended}
use Rattle.lint_flaws.proofs.marks.is_ended.Given as goal

-- it isn't ended so far
abbrev pub invariant-loop-place : goal.invariant-loop-place
invariant-loop-place l = is_ended l.depth (drop l.place l.text) ≡ is_ended 0 l.text
