use Rattle.lint_findings.proofs.OwnIds.{catalogs_override_nothing, translations_override_nothing}
use Rattle.lint_findings.proofs.laws.own_ids_override_nothing.Goals as goal

pub returns : goal.returns
returns g c = record { catalogs = catalogs_override_nothing; translations = translations_override_nothing }
