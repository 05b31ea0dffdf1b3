use Rattle.std.proofs.Common.{◌≡◌, take, map, option_map}
use Rattle.fluent_languages.specs.Tags.{texts}
use Rattle.fluent_languages.specs.Locales.{place_of}
use Rattle.fluent_languages.specs.Negotiation.{places}
use Rattle.fluent_languages.proofs.negotiation.locales.Given as goal

abbrev pub invariant-loop-tag : goal.invariant-loop-tag
invariant-loop-tag l = map (option_map place_of) l.named.items ≡ places (texts (take l.tag-index l.tags))
