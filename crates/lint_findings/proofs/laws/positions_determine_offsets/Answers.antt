use Rattle.lint_findings.proofs.Positions.{positions_determine_offsets}
use Rattle.lint_findings.proofs.laws.positions_determine_offsets.Goals as goal

pub returns : goal.returns
returns c = positions_determine_offsets
