use Rattle.lint_findings.proofs.NothingMissing.{nothing_missing}
use Rattle.lint_findings.proofs.laws.nothing_missing_answers_all.Goals as goal

pub returns : goal.returns
returns g c = nothing_missing
