use Rattle.lint_findings.proofs.TilesAreTheList.{tiles_are_the_list, tiles_have_the_errors}
use Rattle.lint_findings.proofs.laws.tiles_are_the_source.Goals as goal

pub returns : goal.returns
returns c = record { entries = tiles_are_the_list; errors = tiles_have_the_errors }
