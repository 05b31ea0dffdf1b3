use Rattle.std.proofs.lemmas.Result.{IfOk-weaker}
use Rattle.lint_comparison.proofs.Hinting.{no_hint, variable_hinted}
use Rattle.lint_comparison.proofs.hints.difference_hint.Goals as goal

pub returns-in-UnknownVariable : goal.returns-in-UnknownVariable
returns-in-UnknownVariable c =
    IfOk-weaker c.variable_hint.result _ _ (λ hint hinted. variable_hinted c.args.variables.now c.args.difference.now c.in-UnknownVariable.name hint c.in-UnknownVariable.is hinted) c.variable_hint.ensures

pub returns-in_default : goal.returns-in_default
returns-in_default c = no_hint c.args.variables.now c.args.difference.now c.in_default.not-UnknownVariable
