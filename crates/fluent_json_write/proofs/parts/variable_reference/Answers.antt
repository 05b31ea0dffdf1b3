use Rattle.fluent_json_write.proofs.parts.variable_reference.Goals as goal

pub returns-in_err-id-clause-none : goal.returns-in_err-id-clause-none
returns-in_err-id-clause-none c = rw c.from_residual.ensures (λ _ h. c.in_err-id.ensures.none _ _ h)
