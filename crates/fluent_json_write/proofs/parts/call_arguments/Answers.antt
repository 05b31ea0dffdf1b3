use Rattle.fluent_json_write.proofs.parts.call_arguments.Goals as goal

pub returns-in_err-named-clause-none : goal.returns-in_err-named-clause-none
returns-in_err-named-clause-none c = rw c.from_residual.ensures (λ _ _ h. c.in_err-named.ensures.none _ _ _ h)
