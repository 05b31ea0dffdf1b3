use Rattle.lint_findings.proofs.FindingsHold.{catalog_variants, translation_variants}
use Rattle.lint_findings.proofs.laws.repeated_variants_never_match.Goals as goal

pub returns : goal.returns
returns g c = record { catalogs = catalog_variants; translations = translation_variants }
