-- The first places of names.
use Rattle.std.specs.Prelude.{◌≡◌, if◌then◌else◌, List, [], ◌∷◌, ◌++◌, Option, Some, None, option_map}
use Rattle.std.specs.HashMap.{get_by}
use Rattle.std.specs.Str.{bytes_eq}
use Rattle.fluent_grammar.specs.Words.{Text}
use Rattle.lint_comparison.specs.declared.first_places.FirstPlaces.{FirstPlaces}

-- the first place of a name, among names with their places
abbrev pub first_at : Text → List (Text × Text) → Option Text
first_at name [] = None
first_at name (p ∷ ps) = if bytes_eq p.0 name then Some p.1 else first_at name ps

-- the first place that a name has
abbrev pub first_place_of : FirstPlaces → Text → Option Text
first_place_of places name = option_map (λ s. s.now) (get_by (λ k. bytes_eq name k.now) places.first)

-- Each name has the first of these places.
abbrev pub HasFirstPlaces : FirstPlaces → List (Text × Text) → Type 0
HasFirstPlaces places ps = (name : Text) → first_place_of places name ≡ first_at name ps

-- after one more place was added at the end
abbrev pub GetsFirstPlace : FirstPlaces → Text → Text → FirstPlaces → Type 0
GetsFirstPlace old name at new = (ps : List (Text × Text)) → HasFirstPlaces old ps → HasFirstPlaces new (ps ++ (name, at) ∷ [])
