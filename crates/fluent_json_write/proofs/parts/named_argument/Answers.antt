use Rattle.fluent_json_write.proofs.parts.named_argument.Goals as goal

pub returns-in_err-name-clause-none : goal.returns-in_err-name-clause-none
returns-in_err-name-clause-none c = rw c.from_residual.ensures (λ _ _ h. c.in_err-name.ensures.none _ _ _ h)
