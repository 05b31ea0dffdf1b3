-- What adding does to the map of ids, and what it answers.
use Rattle.std.specs.Prelude.{◌≡◌, ◌≢◌, ℕ, false, true, List, [], None, Result, Ok, Err, map, IsSome}
use Rattle.fluent_errors.specs.Errors as e
use Rattle.fluent_errors.specs.View.{bundle_view}
use Rattle.fluent_meaning.specs.Ids.{Meaning, find, kind_of, with_id, with_ids, entries_by_id}
use denote.Ref.{Bor}
use Rattle.fluent_ast.specs.declared.Resource.{Resource}
use Rattle.fluent_ids.specs.ResourceEntries.{entries_in}
use Rattle.fluent_ids.specs.IdsView.{ids_view}
use Rattle.fluent_ids.specs.declared.ids.FluentIds.{FluentIds}
use Rattle.fluent_ids.specs.declared.error.AddResourceError.{AddResourceError}
use Rattle.fluent_ids.specs.declared.error.AddResourceError.TheVariants as resource
use Rattle.fluent_ids.specs.declared.error.AddFunctionError.{AddFunctionError}
use Rattle.fluent_ids.specs.declared.error.AddFunctionError.TheVariants as function

-- The notices are these: none if the call succeeds.
abbrev pub TellsNotices : Result (Unit {0}) AddResourceError → List e.Reported → Type 0
TellsNotices (Ok u) told = told ≡ []
TellsNotices (Err (resource.Overriding notices)) told = (map bundle_view notices.items ≡ told) × (told ≢ [])
TellsNotices (Err resource.Memory) told = Unit {0}

module _ (F : Type 0) where
  -- unless memory ran out, the entries of a resource were put in, the first of an id staying
  abbrev pub AddsFirst : Result (Unit {0}) AddResourceError → FluentIds F → FluentIds F → Resource (Bor (List ℕ)) → Type 0
  AddsFirst (Err resource.Memory) old new r = Unit {0}
  AddsFirst (Err (resource.Overriding notices)) old new r = ids_view F new ≡ with_ids false (ids_view F old) (entries_by_id (entries_in r))
  AddsFirst (Ok u) old new r = ids_view F new ≡ with_ids false (ids_view F old) (entries_by_id (entries_in r))

  -- the entries of a resource were put in, the first of an id staying
  abbrev pub PutsFirst : FluentIds F → FluentIds F → Resource (Bor (List ℕ)) → Type 0
  PutsFirst old new r = ids_view F new ≡ with_ids false (ids_view F old) (entries_by_id (entries_in r))

  -- the entries of a resource were put in, the last of an id staying
  abbrev pub PutsLast : FluentIds F → FluentIds F → Resource (Bor (List ℕ)) → Type 0
  PutsLast old new r = ids_view F new ≡ with_ids true (ids_view F old) (entries_by_id (entries_in r))

  -- a function was put in, if its id stood for nothing
  abbrev pub PutsFunction : FluentIds F → FluentIds F → List ℕ × Meaning F → Type 0
  PutsFunction old new pair = ids_view F new ≡ with_id false (ids_view F old) pair

  -- if memory ran out, nothing changed
  abbrev pub KeepsAtMemory : Result (Unit {0}) AddResourceError → FluentIds F → FluentIds F → Type 0
  KeepsAtMemory (Err resource.Memory) old new = ids_view F new ≡ ids_view F old
  KeepsAtMemory (Err (resource.Overriding notices)) old new = Unit {0}
  KeepsAtMemory (Ok u) old new = Unit {0}

  -- A function is put in if its id stood for nothing. Otherwise nothing changes, and it is reported or memory ran out.
  abbrev pub AddsFunction : Result (Unit {0}) AddFunctionError → FluentIds F → FluentIds F → List ℕ × Meaning F → Type 0
  AddsFunction (Ok u) old new pair = (find (ids_view F old) pair.0 ≡ None) × (ids_view F new ≡ with_id false (ids_view F old) pair)
  AddsFunction (Err (function.Overriding notice)) old new pair =
      IsSome (find (ids_view F old) pair.0) × (bundle_view notice ≡ e.overriding (kind_of pair.1) pair.0) × (ids_view F new ≡ ids_view F old)
  AddsFunction (Err function.Memory) old new pair = ids_view F new ≡ ids_view F old
