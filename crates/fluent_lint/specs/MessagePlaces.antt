-- The places of messages, as the code keeps them.
use Rattle.std.specs.Prelude.{◌≡◌, ℕ, List, [], ◌∷◌, ◌++◌, Option, map}
use Rattle.std.specs.HashMap.{get_by}
use Rattle.std.specs.Str.{bytes_eq}
use Rattle.fluent_grammar.specs.Words.{Text}
use Rattle.lint_nodes.specs.HasNames.{HasNames}
use Rattle.lint_nodes.specs.declared.name_set.Names.{Names}
use Rattle.lint_entries.specs.TileView.{tile_view}
use Rattle.lint_entries.specs.declared.tile.Tile.{Tile}
use Rattle.lint_findings.specs.View.{file_view}
use Rattle.lint_findings.specs.declared.records.File.{File}
use Rattle.lint_findings.specs.Comparison.{union}
use Rattle.fluent_lint.specs.Pairs.{first_place, places_of_parts}
use Rattle.fluent_lint.specs.declared.message_places.MessagePlaces.{MessagePlaces}

-- the offset that an id has
abbrev pub first_place_of : MessagePlaces → Text → Option ℕ
first_place_of places id = get_by (λ k. bytes_eq id k.now) places.first

-- each id has the first of these places
abbrev pub HasPlaces : MessagePlaces → List (Text × ℕ) → Type 0
HasPlaces places ps = (id : Text) → first_place_of places id ≡ first_place id ps

-- after these places were added at the end
abbrev pub GetsPlaces : MessagePlaces → List (Text × ℕ) → MessagePlaces → Type 0
GetsPlaces old more new = (ps : List (Text × ℕ)) → HasPlaces old ps → HasPlaces new (ps ++ more)

abbrev pub places_of_tiles : File → List Tile → List (Text × ℕ)
places_of_tiles file tiles = places_of_parts (file_view file) (map tile_view tiles)

abbrev pub GetsPlace : MessagePlaces → Text → ℕ → MessagePlaces → Type 0
GetsPlace old id at new = GetsPlaces old ((id, at) ∷ []) new

-- after these ids were added, each if it was new
abbrev pub GetsIds : Names → List Text → Names → Type 0
GetsIds old ids new = (xs : List Text) → HasNames old xs → HasNames new (union xs ids)
