use Rattle.lint_findings.proofs.LossesAreTrue.{losses_are_true}
use Rattle.lint_findings.proofs.loss_laws.losses_are_true.Goals as goal

pub returns : goal.returns
returns g c = losses_are_true
