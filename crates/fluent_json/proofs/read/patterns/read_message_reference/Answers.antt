use Rattle.std.proofs.Common.{refl}
use Rattle.fluent_json.proofs.NoTree.{passed_on, no_message_id, no_message_attribute}
use Rattle.fluent_json.proofs.read.patterns.read_message_reference.Goals as goal

pub returns-in_err-id-clause-shape : goal.returns-in_err-id-clause-shape
returns-in_err-id-clause-shape c =
    passed_on c.from_residual.result c.from_residual.ensures.1 c.in_err-id.ensures.shape (no_message_id _ _ _ refl)

pub returns-in_err-attribute-clause-shape : goal.returns-in_err-attribute-clause-shape
returns-in_err-attribute-clause-shape c =
    passed_on c.from_residual-in_err-attribute.result c.from_residual-in_err-attribute.ensures.1 c.in_err-attribute.ensures.shape (no_message_attribute _ _ _ refl)
