use Rattle.lint_findings.proofs.FindingsHold.{catalog_references, translation_references}
use Rattle.lint_findings.proofs.laws.reference_findings_are_read.Goals as goal

pub returns : goal.returns
returns c = record { catalogs = catalog_references; translations = translation_references }
