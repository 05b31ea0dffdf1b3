use Rattle.std.proofs.Common.{take}
use Rattle.fluent_ast.specs.Borrowed.{attributes_of}
use Rattle.lint_nodes.specs.HasNames.{HasNames}
use Rattle.lint_comparison.specs.LackingAttributes.{known_names}
use Rattle.lint_comparison.proofs.attributes.names_of.Given as goal

abbrev pub invariant-loop-attribute : goal.invariant-loop-attribute
invariant-loop-attribute l = HasNames l.names (known_names (attributes_of (take l.attribute-index l.attributes)))
