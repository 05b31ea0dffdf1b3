use Rattle.fluent_json_write.proofs.parts.term.Goals as goal

pub returns-in_err-attributes-clause-none : goal.returns-in_err-attributes-clause-none
returns-in_err-attributes-clause-none c = rw c.from_residual.ensures (λ _ _ _ _ h. c.in_err-attributes.ensures.none _ _ _ _ _ h)
