use Rattle.lint_findings.proofs.Translations.{translations_answer_all}
use Rattle.lint_findings.proofs.laws.translations_answer_all.Goals as goal

pub returns : goal.returns
returns g c = translations_answer_all
