-- What the code's places stand for.
use Rattle.std.specs.Prelude.{List, map}
use denote.Ref.{Bor}
use Rattle.fluent_project.specs.declared.places.Place.{Place as CodePlace}
use Rattle.fluent_project.specs.declared.places.Place.TheVariants as code
use Rattle.fluent_project.specs.Patterns.{Text}
use Rattle.fluent_project.specs.Places.{Place, top, inside}

-- the texts that are lent
abbrev pub texts : List (Bor Text) → List Text
texts = map (λ text. text.now)

abbrev pub place_view : CodePlace → Place
place_view (code.Top key) = top key.now
place_view (code.Inside name index key) = inside name.now index key.now
