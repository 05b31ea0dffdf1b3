use Rattle.fluent_lint.proofs.CleanLanguages.{clean_languages_reply_well}
use Rattle.fluent_lint.proofs.laws.clean_languages_reply_well.Goals as goal

pub returns : goal.returns
returns g c = clean_languages_reply_well
