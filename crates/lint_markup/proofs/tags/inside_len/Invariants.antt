use Rattle.std.proofs.Common.{◌≡◌, ◌+◌, drop, option_map, None}
use Rattle.lint_findings.specs.Tags as t
use Rattle.lint_markup.proofs.tags.inside_len.Given as goal

-- so many bytes are before what is left
abbrev pub invariant-loop-place : goal.invariant-loop-place
invariant-loop-place l = option_map (λ n. l.place + n) (t.inside_len l.quote (drop l.place l.text)) ≡ t.inside_len None l.text
