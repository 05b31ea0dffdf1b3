use Rattle.std.proofs.Common.{map, take}
use Rattle.lint_nodes.specs.HasNames.{HasNames}
use Rattle.lint_findings.specs.Numbers as n
use Rattle.lint_texts.specs.InCode.{number_view}
use Rattle.lint_texts.proofs.numbers.digits_of.Given as goal

-- those so far were added
abbrev pub invariant-loop-number : goal.invariant-loop-number
invariant-loop-number l = HasNames l.names (n.digits_of (map number_view (take l.number-index l.numbers)))
