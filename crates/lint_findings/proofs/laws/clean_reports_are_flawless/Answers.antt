use Rattle.lint_findings.proofs.CleanReports.{clean_catalogs_are_flawless, clean_translations_are_flawless}
use Rattle.lint_findings.proofs.laws.clean_reports_are_flawless.Goals as goal

pub returns : goal.returns
returns g c = record { catalogs = clean_catalogs_are_flawless; translations = clean_translations_are_flawless }
