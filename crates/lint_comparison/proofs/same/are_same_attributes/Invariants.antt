use Rattle.std.proofs.Common.{◌≡◌, drop}
use Rattle.fluent_ast.specs.Borrowed.{attributes_of}
use Rattle.lint_findings.specs.Comparison.{same_attributes}
use Rattle.lint_comparison.proofs.same.are_same_attributes.Given as goal

-- those so far are the same
abbrev pub invariant-loop-index : goal.invariant-loop-index
invariant-loop-index l =
    same_attributes (attributes_of (drop l.index l.attributes)) (attributes_of (drop l.index l.others)) ≡ same_attributes (attributes_of l.attributes) (attributes_of l.others)
