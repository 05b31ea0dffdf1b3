-- The ids of a catalog, and the trees that declare them.
use Rattle.std.specs.Prelude.{◌≡◌, Bool, true, false, List, All, Option, Some, None}
use Rattle.std.specs.List.{flat_map}
use denote.Ref.{Bor}
use Rattle.fluent_ast.specs.Borrowed.{entries_of}
use Rattle.fluent_ast.specs.declared.Resource.{Resource}
use Rattle.fluent_grammar.specs.Words.{Text, is_among}
use Rattle.fluent_meaning.specs.Ids.{Ids, Meaning, number_function, function, message, term, find}
use Rattle.lint_nodes.specs.Holding.{declared_ids}

-- the ids that trees declare
abbrev pub ids_of_trees : List (Resource (Bor Text)) → List Text
ids_of_trees trees = flat_map (λ tree. declared_ids (entries_of tree)) trees

-- whether an id stands for a message or a term
abbrev pub is_entry : Option (Meaning (Unit {0})) → Bool
is_entry None = false
is_entry (Some number_function) = false
is_entry (Some (function f)) = false
is_entry (Some (message m)) = true
is_entry (Some (term m)) = true

-- each id that stands for a message or a term is one of these
abbrev pub AreAmong : Ids (Unit {0}) → List Text → Type 0
AreAmong ids declared = (id : Text) → is_among id declared ≡ false → is_entry (find ids id) ≡ false

-- each id that stands for a message or a term is declared in one of these trees
abbrev pub AreDeclaredIn : Ids (Unit {0}) → List (Resource (Bor Text)) → Type 0
AreDeclaredIn ids trees = AreAmong ids (ids_of_trees trees)

-- these ids stand for functions
abbrev pub AreFunctions : Ids (Unit {0}) → Type 0
AreFunctions ids = All (λ pair. is_entry (Some pair.1) ≡ false) ids
