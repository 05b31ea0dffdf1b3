use Rattle.fluent_json_write.proofs.parts.select.Goals as goal

pub returns-in_err-selector-clause-none : goal.returns-in_err-selector-clause-none
returns-in_err-selector-clause-none c = rw c.from_residual.ensures (λ _ _ h. c.in_err-selector.ensures.none _ _ _ h)
