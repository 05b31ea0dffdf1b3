-- What the code's requests stand for.
use Rattle.std.specs.Prelude.{ℕ, ◌==◌, List, [], ◌∷◌, Option, Some, None, map, option_copied}
use Rattle.std.specs.List.{slice_split}
use denote.Ref.{Bor}
use Rattle.fluent_serve.specs.Text.{Text, cut_at, equals, tab}
use Rattle.fluent_serve.specs.Requests.{Request, and_argument, argument_of, arguments_of, request_with}
use Rattle.fluent_serve.specs.declared.request.Arguments.{Arguments}
use Rattle.fluent_serve.specs.declared.request.Asked.{Asked}

abbrev pub argument_view : Bor Text × Bor Text → Text × Text
argument_view a = (a.0.now, a.1.now)

abbrev pub arguments_view : List (Bor Text × Bor Text) → List (Text × Text)
arguments_view arguments = map argument_view arguments

-- the parts of what is after a separator, if there is one
abbrev pub parts_behind : ℕ → Option Text → List Text
parts_behind separator None = []
parts_behind separator (Some s) = slice_split (λ b. b == separator) s

-- the arguments of what stands after a line's first tab, if there is one
abbrev pub arguments_behind : Option (Bor Text) → Option (List (Text × Text))
arguments_behind rest = arguments_of (λ s. s) (parts_behind tab (option_copied rest))

-- the argument that a part of a line is, or `None` without an equals sign
abbrev pub argument_in : Text → Option (Text × Text)
argument_in part = argument_of (λ s. s) (cut_at equals part)

-- each part of what stands after a line's first tab, if there is one, as an argument
abbrev pub each_argument : Option (Bor Text) → List (Option (Text × Text))
each_argument rest = map argument_in (parts_behind tab (option_copied rest))

-- what an iterator over arguments has left
abbrev pub arguments_left : Arguments → List (Option (Text × Text))
arguments_left it = each_argument it.rest

-- all of them, or none of them if one is missing
abbrev pub all_arguments : List (Option (Text × Text)) → Option (List (Text × Text))
all_arguments [] = Some []
all_arguments (argument ∷ later) = and_argument argument (all_arguments later)

-- the request of what a line asks for, once its arguments are read
abbrev pub asked_request : Option Asked → Option (Request Text)
asked_request None = None
asked_request (Some a) = request_with (a.id.now, option_copied a.attribute) (arguments_behind a.arguments)
