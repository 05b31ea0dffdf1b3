use Rattle.std.proofs.Common.{◌∙◌, sym}
use Rattle.fluent_ids.proofs.Named.{named_here, named_later, none_named}
use Rattle.fluent_ids.proofs.message.FluentMessage.get_attribute.Goals as goal

pub returns-then-eq : goal.returns-then-eq
returns-then-eq c =
    rw c.from.ensures
    (sym (c.loop-node.invariant
    ∙ named_here c.args.name.now c.deref-node-items.result.now c.loop-node.node-index c.node-item.result c.loop-node-test.true c.node-item.is (sym c.eq.ensures ∙ c.if-eq.true)))

pub loop-node-preserved : goal.loop-node-preserved
loop-node-preserved c =
    c.loop-node.invariant
    ∙ named_later c.args.name.now c.deref-node-items.result.now c.loop-node.node-index c.node-item.result c.loop-node-test.true c.node-item.is (sym c.eq.ensures ∙ c.if-eq.false)

pub returns : goal.returns
returns c = sym (c.loop-node.invariant ∙ none_named c.args.name.now c.deref-node-items.result.now c.loop-node.node-index c.loop-node-test.false)
