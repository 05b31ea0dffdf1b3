use Rattle.std.proofs.Common.{◌≡◌, [], drop, map, option_map}
use Rattle.fluent_languages.specs.Locales.{place_of}
use Rattle.fluent_languages.specs.Negotiation.{filtered}
use Rattle.fluent_languages.proofs.negotiation.filter.Given as goal

abbrev pub invariant-loop-request : goal.invariant-loop-request
invariant-loop-request l = filtered (map (option_map place_of) l.offers) (map (option_map place_of) (drop l.request-index l.requests)) l.found.items ≡ filtered (map (option_map place_of) l.offers) (map (option_map place_of) l.requests) []
