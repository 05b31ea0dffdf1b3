use Rattle.fluent_lint.proofs.Replies.{translations_reply}
use Rattle.fluent_lint.proofs.laws.translations_reply.Goals as goal

pub returns : goal.returns
returns g c = translations_reply
