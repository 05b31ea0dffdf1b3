use Rattle.std.proofs.Common.{◌≡◌, ◌≤◌, take}
use Rattle.std.specs.List.{prefix_len}
use Rattle.lint_findings.specs.Addresses as a
use Rattle.lint_texts.proofs.addresses.host_len.Given as goal

-- nothing but dots was cut so far
abbrev pub invariant-loop-len : goal.invariant-loop-len
invariant-loop-len l = (l.len ≤ prefix_len a.is_host_byte l.text) × (a.trim_dots (take l.len l.text) ≡ a.host_text l.text)

abbrev pub decreases-loop-len : goal.decreases-loop-len
decreases-loop-len l = l.len
