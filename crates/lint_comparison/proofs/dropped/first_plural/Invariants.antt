use Rattle.std.proofs.Common.{◌≡◌, drop}
use Rattle.fluent_ast.specs.Borrowed.{message_of}
use Rattle.lint_findings.specs.Losses.{first_plural}
use Rattle.lint_comparison.specs.LossView.{nodes_of}
use Rattle.lint_comparison.proofs.dropped.first_plural.Given as goal

-- none of the nodes so far chooses so
abbrev pub invariant-loop-other : goal.invariant-loop-other
invariant-loop-other l = first_plural (message_of l.message) (nodes_of (drop l.other-index l.others)) ≡ first_plural (message_of l.message) (nodes_of l.others)
