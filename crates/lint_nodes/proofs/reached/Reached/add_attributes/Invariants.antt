use Rattle.std.proofs.Common.{take}
use Rattle.fluent_ast.specs.Borrowed.{attributes_of}
use Rattle.lint_nodes.specs.HasReached.{GetsReferences, attribute_references}
use Rattle.lint_nodes.proofs.reached.Reached.add_attributes.Given as goal

-- what the attributes so far refer to was added
abbrev pub invariant-loop-attribute : goal.invariant-loop-attribute
invariant-loop-attribute l = GetsReferences l.fn.self (attribute_references (attributes_of (take l.attribute-index l.attributes))) l.self
