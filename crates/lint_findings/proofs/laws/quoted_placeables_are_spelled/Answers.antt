use Rattle.lint_findings.proofs.QuotedAreSpelled.{quoted_are_spelled}
use Rattle.lint_findings.proofs.laws.quoted_placeables_are_spelled.Goals as goal

pub returns : goal.returns
returns c = quoted_are_spelled
