use Rattle.fluent_dates.proofs.Spellings.{spellings_share_locale}
use Rattle.fluent_dates.proofs.laws.spellings_share_locale.Goals as goal

pub returns : goal.returns
returns c = spellings_share_locale
