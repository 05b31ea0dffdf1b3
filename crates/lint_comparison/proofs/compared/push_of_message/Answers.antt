use Rattle.std.proofs.Common.{ap}
use Rattle.std.proofs.lemmas.Result.{on_ok_weaker}
use Rattle.fluent_ast.specs.Borrowed.{attributes_of, message_of}
use Rattle.lint_comparison.proofs.ComparedParts.{own_added}
use Rattle.lint_comparison.proofs.compared.push_of_message.Goals as goal

pub returns : goal.returns
returns c =
    on_ok_weaker c.push_lacking_attributes-2.result
    (own_added _ _ _ _ (message_of c.args.message.now) (message_of c.args.other.now) (attributes_of c.deref.result.now) (attributes_of c.deref-2.result.now) (attributes_of c.deref-3.result.now) (attributes_of c.deref-4.result.now)
    (ap attributes_of c.deref.ensures.value) (ap attributes_of c.deref-2.ensures.value) (ap attributes_of c.deref-3.ensures.value) (ap attributes_of c.deref-4.ensures.value)
    c.in_ok-push_value.ensures c.in_ok-push_lacking_attributes.ensures)
    c.push_lacking_attributes-2.ensures
