use Rattle.std.proofs.Common.{◌≡◌, ◌++◌, take}
use Rattle.fluent_ast.specs.Borrowed.{attributes_of}
use Rattle.lint_nodes.specs.HasNames.{texts}
use Rattle.lint_comparison.specs.Referred.{attribute_ids, named_by}
use Rattle.lint_comparison.proofs.referred.push_attributes.Given as goal

abbrev pub invariant-loop-attribute : goal.invariant-loop-attribute
invariant-loop-attribute l = texts l.ids.items ≡ texts l.initial.ids.items ++ attribute_ids (named_by l.what) (attributes_of (take l.attribute-index l.attributes))
