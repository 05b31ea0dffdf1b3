use Rattle.fluent_json_write.proofs.parts.variant.Goals as goal

pub returns-in_err-default-clause-none : goal.returns-in_err-default-clause-none
returns-in_err-default-clause-none c = rw c.from_residual.ensures (λ _ _ _ h. c.in_err-default.ensures.none _ _ _ _ h)
