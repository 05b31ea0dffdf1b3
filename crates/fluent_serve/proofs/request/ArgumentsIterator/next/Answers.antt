use Rattle.std.proofs.Common.{◌∷◌, ap, sym, ◌∙◌, arith, length}
use Rattle.fluent_serve.specs.RequestView.{each_argument}
use Rattle.fluent_serve.proofs.Requests.{read_on}
use Rattle.fluent_serve.proofs.request.ArgumentsIterator.next.Goals as goal

pub returns-clause-steps : goal.returns-clause-steps
returns-clause-steps c =
    read_on c.args.self.now.rest c.in_ok-self.field-0 c.cut.result.0.now c.cut.result.1 c.in_ok-self.was c.cut.ensures
    ∙ ap (λ argument. argument ∷ each_argument c.cut.result.1) (sym c.read_argument.ensures)

pub returns-clause-goes : goal.returns-clause-goes
returns-clause-goes c = record { on = λ finite. (tt, tt, omega (arith, ap length (returns-clause-steps c))); keeps = tt; rests = λ finite. tt }
