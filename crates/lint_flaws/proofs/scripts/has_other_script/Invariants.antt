use Rattle.std.proofs.Common.{◌≡◌, drop}
use Rattle.std.specs.List.{list_any}
use Rattle.lint_flaws.specs.Special.{begins_other}
use Rattle.lint_flaws.proofs.scripts.has_other_script.Given as goal

-- none so far
abbrev pub invariant-loop-byte : goal.invariant-loop-byte
invariant-loop-byte l = list_any begins_other (drop l.byte-index l.text) ≡ list_any begins_other l.text
