use Rattle.fluent_languages.proofs.Negotiated.{no_tag_is_passed_over}
use Rattle.fluent_languages.proofs.laws.no_tag_is_passed_over.Goals as goal

pub returns : goal.returns
returns c = no_tag_is_passed_over
