use Rattle.std.proofs.Common.{◌≡◌, drop}
use Rattle.fluent_ast.specs.Borrowed.{attributes_of}
use Rattle.lint_comparison.specs.LackingAttributes.{have_same_names}
use Rattle.lint_comparison.proofs.attributes.have_same_names.Given as goal

-- those so far are the same
abbrev pub invariant-loop-index : goal.invariant-loop-index
invariant-loop-index l =
    have_same_names (attributes_of (drop l.index l.attributes)) (attributes_of (drop l.index l.others)) ≡ have_same_names (attributes_of l.attributes) (attributes_of l.others)
