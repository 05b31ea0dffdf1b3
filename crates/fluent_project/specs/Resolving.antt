-- Patterns with variables put in.
use Rattle.std.specs.Prelude.{ℕ, ◌||◌, not, if◌then◌else◌, List, [], Option, Some, None, Result, Ok, Err, codes, map, option_and_then}
use Rattle.fluent_project.specs.declared.part.Part.{Part}
use Rattle.fluent_project.specs.Checks.{has_locale, has_no_wildcard}
use Rattle.fluent_project.specs.Normal.{in_folder, normal}
use Rattle.fluent_project.specs.Patterns.{Text, filled}
use Rattle.fluent_project.specs.Written.{Variable, pattern_parts}
use Rattle.fluent_project.specs.declared.faults.FaultKind.TheVariants.{NoPath, NoVariable}
use Rattle.fluent_project.specs.declared.resolved.Resolved as code
use Rattle.fluent_project.specs.declared.resolved.Variables as code_variables
use Rattle.fluent_project.specs.Files.{Fault, fault}
use Rattle.fluent_project.specs.PlaceViews.{place_view}
use Rattle.fluent_project.specs.Places.{Place, inside}
use Rattle.fluent_project.specs.declared.places.Place.{Place as CodePlace}

-- the parts of a text, if all variables that it holds are there
abbrev pub if_read : Result (List Part) Text → Option (List Part)
if_read (Ok parts) = Some parts
if_read (Err rest) = None

abbrev pub parts_with : List Variable → Text → Option (List Part)
parts_with variables text = if_read (pattern_parts variables text)

-- a pattern with variables put in, joined to a folder
abbrev pub joined_to : Text → List Part → Option (List Part)
joined_to folder parts = Some (normal (in_folder folder parts))

abbrev pub pattern_in : Text → List Variable → Text → Option (List Part)
pattern_in folder variables text = option_and_then (joined_to folder) (parts_with variables text)

-- the same at a place of the project's file
abbrev pub or_no_variable : Place → Option (List Part) → Result (List Part) Fault
or_no_variable place None = Err (fault place NoVariable)
or_no_variable place (Some parts) = Ok parts

abbrev pub pattern_at : Text → List Variable → Place → Text → Result (List Part) Fault
pattern_at folder variables place text = or_no_variable place (pattern_in folder variables text)

-- the path of one file
abbrev pub one_path : Place → Result (List Part) Fault → Result Text Fault
one_path place (Err f) = Err f
one_path place (Ok parts) = if has_locale parts || not (has_no_wildcard parts) then Err (fault place NoPath) else Ok (filled [] parts [])

abbrev pub path_at : Text → List Variable → Place → Text → Result Text Fault
path_at folder variables place text = one_path place (pattern_at folder variables place text)

-- ---- in the code

abbrev pub resolved_view : code.Resolved → Variable
resolved_view r = (r.name.now, r.parts.items)

abbrev pub resolved_views : List code.Resolved → List Variable
resolved_views = map resolved_view

-- a pattern that is read with variables, and at a place
abbrev pub pattern_of : code_variables.Variables → Text → Option (List Part)
pattern_of v text = pattern_in v.folder.now (resolved_views v.list.now) text

abbrev pub pattern_by : code_variables.Variables → CodePlace → Text → Result (List Part) Fault
pattern_by v place text = pattern_at v.folder.now (resolved_views v.list.now) (place_view place) text

-- the path of the file that the table of a name and a number names
abbrev pub path_by : code_variables.Variables → Text → ℕ → Text → Result Text Fault
path_by v name n text = path_at v.folder.now (resolved_views v.list.now) (inside name n (codes "path")) text

-- the parts of a text with these variables
abbrev pub read_by : List code.Resolved → Text → Option (List Part)
read_by found text = parts_with (resolved_views found) text
