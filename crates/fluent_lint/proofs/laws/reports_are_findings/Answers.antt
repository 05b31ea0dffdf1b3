use Rattle.fluent_lint.proofs.SameFindings.{reports_are_findings}
use Rattle.fluent_lint.proofs.laws.reports_are_findings.Goals as goal

pub returns : goal.returns
returns c = reports_are_findings
