-- What adding does to a bundle, and what it answers.
use Rattle.std.specs.Prelude.{◌≡◌, ◌≢◌, Bool, false, List, [], None, Result, Ok, Err, map, IsSome}
use Rattle.fluent_grammar.specs.Tree as t
use Rattle.fluent_grammar.specs.Words.{Text}
use Rattle.fluent_errors.specs.Errors as e
use Rattle.fluent_errors.specs.View.{bundle_view}
use Rattle.fluent_meaning.specs.Ids.{Meaning, find, kind_of, with_id, with_ids, entries_by_id, notices}
use Rattle.fluent_ids.specs.declared.error.AddResourceError.{AddResourceError}
use Rattle.fluent_ids.specs.declared.error.AddResourceError.TheVariants as resource
use Rattle.fluent_ids.specs.declared.error.AddFunctionError.{AddFunctionError}
use Rattle.fluent_ids.specs.declared.error.AddFunctionError.TheVariants as function
use Rattle.fluent_bundle.specs.Contents.{Contents}

module _ {M F G T : Type 0} where
  -- a bundle with the messages and terms of a resource: the first of an id stays, or with `overriding` the last
  abbrev pub with_entries : Bool → Contents M F G T → List t.Entry → Contents M F G T
  with_entries overriding bundle entries = record bundle { ids = with_ids overriding bundle.ids (entries_by_id entries) }

  -- a bundle with a function
  abbrev pub with_function : Contents M F G T → Text × Meaning F → Contents M F G T
  with_function bundle pair = record bundle { ids = with_id false bundle.ids pair }

  -- The entries of a resource were put in, the first of an id staying. If memory ran out, nothing changed.
  abbrev pub AddsFirst : Result (Unit {0}) AddResourceError → Contents M F G T → Contents M F G T → List t.Entry → Type 0
  AddsFirst (Ok u) old new entries = new ≡ with_entries false old entries
  AddsFirst (Err (resource.Overriding told)) old new entries = new ≡ with_entries false old entries
  AddsFirst (Err resource.Memory) old new entries = new ≡ old

  -- There is a notice for each entry whose id stood for another one: none if the call succeeds.
  abbrev pub TellsNotices : Result (Unit {0}) AddResourceError → Contents M F G T → List t.Entry → Type 0
  TellsNotices (Ok u) old entries = notices old.ids (entries_by_id entries) ≡ []
  TellsNotices (Err (resource.Overriding told)) old entries = (map bundle_view told.items ≡ notices old.ids (entries_by_id entries)) × (notices old.ids (entries_by_id entries) ≢ [])
  TellsNotices (Err resource.Memory) old entries = Unit {0}

  -- A function was put in if its id stood for nothing. Otherwise nothing changed, and it is reported or memory ran out.
  abbrev pub AddsFunction : Result (Unit {0}) AddFunctionError → Contents M F G T → Contents M F G T → Text × Meaning F → Type 0
  AddsFunction (Ok u) old new pair = (find old.ids pair.0 ≡ None) × (new ≡ with_function old pair)
  AddsFunction (Err (function.Overriding notice)) old new pair = IsSome (find old.ids pair.0) × (bundle_view notice ≡ e.overriding (kind_of pair.1) pair.0) × (new ≡ old)
  AddsFunction (Err function.Memory) old new pair = new ≡ old
