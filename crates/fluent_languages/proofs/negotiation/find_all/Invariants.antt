use Rattle.std.proofs.Common.{◌≡◌, drop}
use Rattle.fluent_languages.specs.Locales.{place_of, places_of}
use Rattle.fluent_languages.specs.Negotiation.{by_ways}
use Rattle.fluent_languages.proofs.negotiation.find_all.Given as goal

abbrev pub invariant-loop-way : goal.invariant-loop-way
invariant-loop-way l = by_ways (place_of l.asked.locale) (places_of l.offers) (drop l.way-index l.ways) l.found.items ≡ by_ways (place_of l.asked.locale) (places_of l.offers) l.ways l.initial.found.items
