-- The ids that are known.
use Rattle.std.specs.Prelude.{◌≡◌, false, List, [], ◌∷◌, ◌++◌, map}
use Rattle.std.specs.List.{flat_map}
use denote.Ref.{Bor}
use Rattle.fluent_ast.specs.Borrowed.{entries_of}
use Rattle.fluent_ast.specs.declared.Resource.{Resource}
use Rattle.fluent_grammar.specs.Words.{Text}
use Rattle.fluent_ids.specs.IdsView.{ids_view}
use Rattle.fluent_ids.specs.declared.ids.FluentIds.{FluentIds}
use Rattle.fluent_meaning.specs.Ids.{Ids, Meaning, entries_by_id, function, number_pair, with_ids}
use Rattle.fluent_resource.specs.Sources.{texts}

abbrev pub functions_by_id : List Text → List (Text × Meaning (Unit {0}))
functions_by_id names = map (λ name. (name, function tt)) names

-- the messages and terms of trees, by their ids
abbrev pub trees_by_id : List (Resource (Bor Text)) → List (Text × Meaning (Unit {0}))
trees_by_id trees = flat_map (λ tree. entries_by_id (entries_of tree)) trees

-- `NUMBER`, functions of these names and then these pairs, the first of an id staying
abbrev pub by_ids : List Text → List (Text × Meaning (Unit {0})) → Ids (Unit {0})
by_ids names pairs = with_ids false (number_pair ∷ []) (functions_by_id names ++ pairs)

-- functions of these names are added, the first of an id staying
abbrev pub AddsFunctions : List (Bor Text) → FluentIds (Unit {0}) → FluentIds (Unit {0}) → Type 0
AddsFunctions names old new = ids_view (Unit {0}) new ≡ with_ids false (ids_view (Unit {0}) old) (functions_by_id (texts names))

-- These are the ids of functions of these names, and of these pairs.
abbrev pub IsIdsOf : FluentIds (Unit {0}) → List Text → List (Text × Meaning (Unit {0})) → Type 0
IsIdsOf ids names pairs = ids_view (Unit {0}) ids ≡ by_ids names pairs
