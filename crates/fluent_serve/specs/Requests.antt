-- Request lines: an id, an optional attribute, and arguments, separated by tabs.
-- `V` is the type of the arguments' values, and `value_of` reads one from its text.
use Rattle.std.specs.Prelude.{◌==◌, if◌then◌else◌, List, [], ◌∷◌, map, Option, Some, None}
use Rattle.std.specs.List.{slice_split}
use Rattle.std.specs.Str.{is_utf8}
use Rattle.fluent_serve.specs.Text.{Text, tab, dot, equals, cut_at}

-- what a line asks for, with its arguments in the order of the line
pub record Request (V : Type 0) : Type 0 where
  pub id : Text
  pub attribute : Option Text
  pub arguments : List (Text × V)

-- one argument: its name ends at its first equals sign, and without one there is no argument
abbrev pub argument_of : {V : Type 0} → (Text → V) → Text × Option Text → Option (Text × V)
argument_of value_of (name, None) = None
argument_of value_of (name, Some value) = Some (name, value_of value)

abbrev pub and_argument : {V : Type 0} → Option (Text × V) → Option (List (Text × V)) → Option (List (Text × V))
and_argument None rest = None
and_argument (Some a) None = None
and_argument (Some a) (Some rest) = Some (a ∷ rest)

-- all arguments, or none of them if one has no equals sign
abbrev pub arguments_of : {V : Type 0} → (Text → V) → List Text → Option (List (Text × V))
arguments_of value_of [] = Some []
arguments_of value_of (p ∷ ps) = and_argument (argument_of value_of (cut_at equals p)) (arguments_of value_of ps)

-- the id ends at the first dot, and the attribute is what is after that
abbrev pub request_with : {V : Type 0} → Text × Option Text → Option (List (Text × V)) → Option (Request V)
request_with name None = None
request_with name (Some arguments) = Some (record { id = name.0; attribute = name.1; arguments = arguments })

abbrev pub request_of_parts : {V : Type 0} → (Text → V) → List Text → Option (Request V)
request_of_parts value_of [] = None
request_of_parts value_of (p ∷ ps) = request_with (cut_at dot p) (arguments_of value_of ps)

-- what a line asks for; a line that is not UTF-8, or has an argument without equals sign, is no request
unfoldable pub request_of : {V : Type 0} → (Text → V) → Text → Option (Request V)
request_of value_of line = if is_utf8 line then request_of_parts value_of (slice_split (λ b. b == tab) line) else None

-- a request with values in the place of its arguments' texts
abbrev pub with_values : {V : Type 0} → (Text → V) → Request Text → Request V
with_values value_of r = record { id = r.id; attribute = r.attribute; arguments = map (λ a. (a.0, value_of a.1)) r.arguments }
