-- Patterns that are for the very fields that are wanted: see `Matching.antt`.
use Rattle.std.specs.Prelude.{ℕ, Bool, true, ◌&&◌, ◌==◌, if◌then◌else◌, List, [], ◌∷◌, Option, Some, None, slice_get}
use Rattle.fluent_date_tables.specs.Tables.{Pair, Row, Skeleton}
use Rattle.fluent_date_tables.specs.Lists.{list_numbered}
use Rattle.fluent_date_tables.specs.Skeletons.{skeletons}
use Rattle.fluent_dates.specs.Matching.{Found, no_gap}

-- whether measures are the same, up to the end of the shorter list
abbrev pub are_same : List ℕ → List ℕ → Bool
are_same [] known = true
are_same (asked ∷ wanted) [] = true
are_same (asked ∷ wanted) (have ∷ known) = asked == have && are_same wanted known

-- the pattern for a skeleton, if it is for the very fields that are wanted
abbrev pub exact_with : List ℕ → ℕ → Option Skeleton → Option Found
exact_with wanted pattern None = None
exact_with wanted pattern (Some skeleton) =
    if are_same wanted skeleton.measures then Some (record { gap = no_gap; skeleton = skeleton; pattern = pattern }) else None

abbrev pub exact_one : List ℕ → Pair → Option Found
exact_one wanted pair = exact_with wanted pair.pattern (slice_get skeletons pair.skeleton)

-- the first of two that is there
abbrev pub first_found : Option Found → Option Found → Option Found
first_found None other = other
first_found (Some found) other = Some found

-- the first of a list that is for these fields
abbrev pub exact_of : List Pair → List ℕ → Option Found
exact_of [] wanted = None
exact_of (pair ∷ pairs) wanted = first_found (exact_one wanted pair) (exact_of pairs wanted)

-- the first of a locale that is
abbrev pub exact_in : Row → List ℕ → Option Found
exact_in row wanted =
    first_found (exact_of (list_numbered row.date_patterns) wanted) (exact_of (list_numbered row.time_patterns) wanted)
