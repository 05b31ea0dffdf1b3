use Rattle.fluent_json_write.proofs.parts.message_reference.Goals as goal

pub returns-in_err-attribute-clause-none : goal.returns-in_err-attribute-clause-none
returns-in_err-attribute-clause-none c = rw c.from_residual.ensures (λ _ _ h. c.in_err-attribute.ensures.none _ _ _ h)
