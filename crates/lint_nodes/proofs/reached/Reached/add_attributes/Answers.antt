use Rattle.std.proofs.Common.{subst}
use Rattle.std.proofs.lemmas.List.{take_all}
use Rattle.fluent_ast.specs.Borrowed.{attributes_of}
use Rattle.lint_nodes.specs.HasReached.{GetsReferences, attribute_references}
use Rattle.lint_nodes.proofs.References.{next_attribute}
use Rattle.lint_nodes.proofs.reached.Reached.add_attributes.Goals as goal

pub loop-attribute-init : goal.loop-attribute-init
loop-attribute-init c = λ ms vs has. has

pub loop-attribute-preserved : goal.loop-attribute-preserved
loop-attribute-preserved c =
    next_attribute c.args.self.now c.loop-attribute.self c.add_pattern.new.self c.args.attributes.now c.loop-attribute.attribute-index c.attribute-item.result c.loop-attribute-test.true c.attribute-item.is
    c.loop-attribute.invariant c.in_ok-add_pattern.ensures

pub returns : goal.returns
returns c =
    let all = take_all c.loop-attribute.attribute-index c.args.attributes.now c.loop-attribute-test.false in
    subst (λ xs. GetsReferences c.args.self.now (attribute_references (attributes_of xs)) c.loop-attribute.self) all c.loop-attribute.invariant
