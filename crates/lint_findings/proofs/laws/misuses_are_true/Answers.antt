use Rattle.lint_findings.proofs.MisusesAreTrue.{misuses_are_true}
use Rattle.lint_findings.proofs.laws.misuses_are_true.Goals as goal

pub returns : goal.returns
returns c = misuses_are_true
