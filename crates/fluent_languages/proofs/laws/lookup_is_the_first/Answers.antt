use Rattle.fluent_languages.proofs.Negotiated.{lookup_is_the_first}
use Rattle.fluent_languages.proofs.laws.lookup_is_the_first.Goals as goal

pub returns : goal.returns
returns c = lookup_is_the_first
