use Rattle.lint_findings.proofs.NearNamesAreThere.{nearest_is_there}
use Rattle.lint_findings.proofs.laws.near_names_are_there.Goals as goal

pub returns : goal.returns
returns c = nearest_is_there
