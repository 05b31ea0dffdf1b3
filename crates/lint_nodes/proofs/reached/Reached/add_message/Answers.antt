use Rattle.std.proofs.Common.{ap}
use Rattle.std.proofs.lemmas.Result.{on_ok_weaker}
use Rattle.fluent_ast.specs.Borrowed.{attributes_of, message_of}
use Rattle.lint_nodes.proofs.References.{message_gets}
use Rattle.lint_nodes.proofs.reached.Reached.add_message.Goals as goal

pub returns : goal.returns
returns c =
    let m = message_of c.args.message.now in
    on_ok_weaker c.add_attributes.result
    (message_gets c.args.self.now c.add_value.new.self c.add_attributes.new.self m (attributes_of c.deref.result.now) (ap attributes_of c.deref.ensures.value) c.in_ok-add_value.ensures)
    c.add_attributes.ensures
