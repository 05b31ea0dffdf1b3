use Rattle.std.proofs.Common.{◌≡◌, false, drop}
use Rattle.lint_texts.specs.Spaces.{has_two_spaces}
use Rattle.lint_texts.proofs.spaces.has_two_spaces.Given as goal

-- none so far
abbrev pub invariant-loop-byte : goal.invariant-loop-byte
invariant-loop-byte l = has_two_spaces l.before (drop l.byte-index l.text) ≡ has_two_spaces false l.text
