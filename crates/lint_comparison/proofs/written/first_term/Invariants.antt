use Rattle.std.proofs.Common.{◌≡◌, drop}
use Rattle.lint_comparison.specs.WrittenView.{first_term_in}
use Rattle.lint_comparison.proofs.written.first_term.Given as goal

-- none of the nodes so far refers to one
abbrev pub invariant-loop-node : goal.invariant-loop-node
invariant-loop-node l = first_term_in l.reference l.message l.other l.nodes (drop l.node-index l.others) ≡ first_term_in l.reference l.message l.other l.nodes l.others
