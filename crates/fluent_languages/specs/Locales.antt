-- What the code has of a locale.
use Rattle.std.specs.Prelude.{List, Option, map, option_map}
use Rattle.fluent_languages.specs.Tags.{tag_of}
use Rattle.fluent_languages.specs.Steps.{Place}
use Rattle.fluent_languages.specs.declared.locale.Locale.{Locale}
use Rattle.fluent_languages.specs.declared.locale.Request.{Request}

abbrev pub place_of : Locale → Place
place_of locale = record { written = tag_of locale.written; tag = tag_of locale.tag; full = tag_of locale.full }

abbrev pub place_in : Option Locale → Option Place
place_in = option_map place_of

-- what is asked for
abbrev pub wanted : Request → Place
wanted request = place_of request.locale

abbrev pub places_of : List (Option Locale) → List (Option Place)
places_of = map (option_map place_of)
