use Rattle.lint_findings.proofs.FactsAreTrue.{facts_are_true}
use Rattle.lint_findings.proofs.laws.facts_are_true.Goals as goal

pub returns : goal.returns
returns g c = facts_are_true
