use Rattle.std.proofs.Common.{◌≡◌, drop, map, option_map}
use Rattle.fluent_languages.specs.Locales.{place_of}
use Rattle.fluent_languages.specs.Negotiation.{best}
use Rattle.fluent_languages.proofs.negotiation.best_in.Given as goal

abbrev pub invariant-loop-step : goal.invariant-loop-step
invariant-loop-step l = best (place_of l.request.locale) (map (option_map place_of) l.offers) (drop l.step-index l.steps) l.found ≡ best (place_of l.request.locale) (map (option_map place_of) l.offers) l.steps l.found
