use Rattle.fluent_lint.proofs.Replies.{clean_reports_reply_well, own_ids_reply_well}
use Rattle.fluent_lint.proofs.laws.clean_reports_reply_well.Goals as goal

pub returns : goal.returns
returns g c = record { first = clean_reports_reply_well; last = own_ids_reply_well }
