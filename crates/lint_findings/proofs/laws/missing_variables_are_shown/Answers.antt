use Rattle.lint_findings.proofs.MissingVariables.{missing_variables_are_shown}
use Rattle.lint_findings.proofs.laws.missing_variables_are_shown.Goals as goal

pub returns : goal.returns
returns g c = missing_variables_are_shown
