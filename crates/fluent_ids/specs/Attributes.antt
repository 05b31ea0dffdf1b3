-- Attributes by their names.
use Rattle.std.specs.Prelude.{List, [], ◌∷◌, Option, None, Some, if◌then◌else◌}
use Rattle.std.specs.Str.{bytes_eq}
use Rattle.fluent_grammar.specs.Words.{Text}
use Rattle.fluent_grammar.specs.Tree.{Attribute}

-- the first attribute of a name
abbrev pub first_named : Text → List Attribute → Option Attribute
first_named name [] = None
first_named name (a ∷ as') = if bytes_eq a.id name then Some a else first_named name as'
