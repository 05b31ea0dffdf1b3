use Rattle.lint_findings.proofs.FindingsHold.{catalog_terms, translation_terms}
use Rattle.lint_findings.proofs.laws.unused_terms_are_unused.Goals as goal

pub returns : goal.returns
returns c = record { catalogs = catalog_terms; translations = translation_terms }
