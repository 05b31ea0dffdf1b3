use Rattle.lint_findings.proofs.PatternPlaces.{patterns_have_places}
use Rattle.lint_findings.proofs.laws.patterns_have_places.Goals as goal

pub returns : goal.returns
returns c = patterns_have_places
