use Rattle.fluent_tidy_laws.proofs.Joining.{joined_texts_keep_lists}
use Rattle.fluent_tidy_laws.proofs.laws.joined_texts_keep_lists.Goals as goal

pub returns : goal.returns
returns c = joined_texts_keep_lists
