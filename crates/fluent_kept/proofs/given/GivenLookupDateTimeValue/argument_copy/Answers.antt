use Rattle.std.proofs.lemmas.List.Elements.{All-contains}
use Rattle.fluent_kept.specs.Given.{HasTexts}
use Rattle.fluent_kept.proofs.given.GivenLookupDateTimeValue.argument_copy.Goals as goal

pub value_in-requires : goal.value_in-requires
value_in-requires c = All-contains HasTexts c.self.inside.list.now c.in-Some.argument.now c.self.invariant c.in-Some.ensures.among
