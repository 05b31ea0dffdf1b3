use Rattle.fluent_serve.specs.Exchange.{IsFrontOf}
use Rattle.fluent_serve.proofs.Answers.{ErrorsSoFar}
use Rattle.fluent_serve.proofs.answer.push_errors.Given as goal

abbrev pub invariant-loop-error : goal.invariant-loop-error
invariant-loop-error g l =
    ErrorsSoFar g.E.Display.output l.errors l.error-index l.fn.out.items l.out.items × IsFrontOf l.fn.out.items l.out.items
