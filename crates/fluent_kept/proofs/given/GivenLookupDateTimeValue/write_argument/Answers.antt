use Rattle.std.proofs.lemmas.List.Elements.{All-contains}
use Rattle.fluent_kept.specs.Given.{HasTexts}
use Rattle.fluent_kept.proofs.given.GivenLookupDateTimeValue.write_argument.Goals as goal

pub push_argument-requires : goal.push_argument-requires
push_argument-requires g c = All-contains HasTexts c.self.inside.list.now c.in-Some.argument.now c.self.invariant c.in-Some.ensures.among
