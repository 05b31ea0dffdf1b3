use Rattle.fluent_json_write.proofs.parts.placeable.Goals as goal

pub returns-in_err-expression-clause-none : goal.returns-in_err-expression-clause-none
returns-in_err-expression-clause-none c = rw c.from_residual.ensures (λ _ h. c.in_err-expression.ensures.none _ _ h)
