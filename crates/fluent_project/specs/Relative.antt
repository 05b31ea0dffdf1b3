-- A path as it is seen from a folder.
use Rattle.std.specs.Prelude.{◌≡◌, Bool, true, false, if◌then◌else◌, [], ◌∷◌, ◌++◌, Option, Some, None, codes, option_and_then, unwrap_or}
use Rattle.fluent_project.specs.Folders.{before_slash}
use Rattle.fluent_project.specs.Patterns.{Text, is_slash}
use Rattle.fluent_project.specs.Taking.{after}

-- what follows a slash
abbrev pub after_slash : Text → Option Text
after_slash [] = None
after_slash (byte ∷ text) = if is_slash byte then Some text else None

-- what follows the path of a folder and its slash in a path below the folder
abbrev pub below : Text → Text → Option Text
below folder path = option_and_then after_slash (after folder path)

abbrev pub or_up : Option Text → Option Text → Option Text
or_up (Some rest) above = Some rest
or_up None None = None
or_up None (Some seen) = Some (codes "../" ++ seen)

-- The path below the folder, or below one above it, as often as there is a byte here. A folder has fewer folders above it than
-- its path has bytes.
abbrev pub seen_up : Text → Text → Text → Option Text
seen_up [] folder path = None
seen_up (_ ∷ turns) folder path = or_up (below folder path) (seen_up turns (before_slash folder) path)

-- the path as it is seen from the folder, or the path itself
abbrev pub relative : Text → Text → Text
relative folder path = unwrap_or (seen_up folder folder path) path

-- this was appended, if there is something
abbrev pub Pushes : Option Text → Text → Text → Bool → Type 0
Pushes None old new found = found ≡ false
Pushes (Some seen) old new found = (found ≡ true) × (new ≡ old ++ seen)
