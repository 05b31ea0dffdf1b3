use Rattle.fluent_json_write.proofs.parts.function_reference.Goals as goal

pub returns-in_err-arguments-clause-none : goal.returns-in_err-arguments-clause-none
returns-in_err-arguments-clause-none c = rw c.from_residual.ensures (λ _ _ h. c.in_err-arguments.ensures.none _ _ _ h)
