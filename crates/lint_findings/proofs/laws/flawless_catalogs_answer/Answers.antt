use Rattle.lint_findings.proofs.FlawlessCatalogs.{flawless_catalogs_answer}
use Rattle.lint_findings.proofs.laws.flawless_catalogs_answer.Goals as goal

pub returns : goal.returns
returns g c = flawless_catalogs_answer
