use Rattle.lint_findings.proofs.CategoriesAreTaken.{missing_categories_are_taken}
use Rattle.lint_findings.proofs.category_laws.missing_categories_are_taken.Goals as goal

pub returns : goal.returns
returns c = missing_categories_are_taken
