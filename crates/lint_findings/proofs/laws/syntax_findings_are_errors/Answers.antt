use Rattle.lint_findings.proofs.FindingsHold.{catalog_errors, translation_errors}
use Rattle.lint_findings.proofs.laws.syntax_findings_are_errors.Goals as goal

pub returns : goal.returns
returns c = record { catalogs = catalog_errors; translations = translation_errors }
