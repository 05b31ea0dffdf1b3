use Rattle.fluent_languages.proofs.Negotiated.{finds_each_once}
use Rattle.fluent_languages.proofs.laws.finds_each_once.Goals as goal

pub returns : goal.returns
returns c = finds_each_once
