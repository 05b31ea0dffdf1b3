use Rattle.std.proofs.Common.{◌≡◌, drop, map, option_map}
use Rattle.fluent_languages.specs.Locales.{place_of}
use Rattle.fluent_languages.specs.Negotiation.{all_in}
use Rattle.fluent_languages.proofs.negotiation.find_in.Given as goal

abbrev pub invariant-loop-at : goal.invariant-loop-at
invariant-loop-at l = all_in l.step (place_of l.request.locale) (map (option_map place_of) (drop l.at l.offers)) l.at l.found.items ≡ all_in l.step (place_of l.request.locale) (map (option_map place_of) l.offers) 0 l.initial.found.items
