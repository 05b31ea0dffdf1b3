use Rattle.std.proofs.Common.{◌≡◌, drop}
use Rattle.std.specs.List.{list_any}
use Rattle.fluent_grammar.specs.Words.{is_digit}
use Rattle.lint_texts.proofs.numbers.has_digit.Given as goal

-- none so far
abbrev pub invariant-loop-byte : goal.invariant-loop-byte
invariant-loop-byte l = list_any is_digit (drop l.byte-index l.text) ≡ list_any is_digit l.text
