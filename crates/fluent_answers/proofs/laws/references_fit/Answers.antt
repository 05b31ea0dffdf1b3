use Rattle.fluent_answers.proofs.SourcesFit.{references_fit, requests_fit}
use Rattle.fluent_answers.proofs.laws.references_fit.Goals as goal

pub returns-clause-references : goal.returns-clause-references
returns-clause-references g c = references_fit _

pub returns-clause-entered : goal.returns-clause-entered
returns-clause-entered g c = requests_fit _ _
