use Rattle.std.proofs.Common.{◌≡◌, drop}
use Rattle.std.specs.List.{list_any}
use Rattle.lint_nodes.specs.HasNames.{texts}
use Rattle.lint_findings.specs.Numbers as n
use Rattle.lint_texts.proofs.numbers.any_great.Given as goal

-- none so far is
abbrev pub invariant-loop-number : goal.invariant-loop-number
invariant-loop-number l = list_any n.is_great (texts (drop l.number-index l.numbers)) ≡ list_any n.is_great (texts l.numbers)
