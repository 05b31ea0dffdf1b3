use Rattle.lint_findings.proofs.OccurrencesAreRead.{occurrences_are_read}
use Rattle.lint_findings.proofs.OccurrencesAreTheNodes.{occurrences_are_the_nodes}
use Rattle.lint_findings.proofs.laws.occurrences_are_the_nodes.Goals as goal

pub returns : goal.returns
returns c = record { nodes = occurrences_are_the_nodes; read = occurrences_are_read }
