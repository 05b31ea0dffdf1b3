-- What was read of a source so far, and what the pieces that are left will make of it.
use Rattle.std.specs.Prelude.{◌≡◌, ◌≢◌, Bool, List, [], ◌∷◌, ◌++◌, Option, None, Result, Ok, Err, map, option_map}
use Rattle.fluent_grammar.specs.Words.{Text}
use Rattle.fluent_grammar.specs.Tree as t
use Rattle.fluent_grammar.specs.Tiling.{Piece, attached, entries_of, entry, errors_of}
use Rattle.fluent_ast.specs.View.{entry_view, comment_view, resource_view}
use Rattle.fluent_parsed.specs.ErrorView.{ErrorView, error_view, error_told}
use Rattle.fluent_parsed.specs.declared.collected.Collected.{Collected}
use Rattle.fluent_parsed.specs.declared.error.Error.{Error}
use Rattle.fluent_parsed.specs.declared.error.Error.TheVariants as error
use Rattle.fluent_ast.specs.declared.Entry.{Entry}
use Rattle.fluent_ast.specs.declared.Resource.{Resource}

module _ (S : Type 0) (text_of : S → Text) where
  -- the entries that are there
  abbrev pub body_of : Collected S → List t.Entry
  body_of r = map (entry_view S text_of) r.body.items

  -- the comment that waits for a message or a term
  abbrev pub held_by : Collected S → Option (List Text)
  held_by r = option_map (comment_view S text_of) r.comment

  -- the entries, with those of more pieces
  abbrev pub entries_with : Collected S → List Piece → List t.Entry
  entries_with r ps = body_of r ++ entries_of (held_by r) ps

  -- a piece was taken in: with any more pieces after it, the entries are the same
  abbrev pub TakesEntries : Collected S → Collected S → Piece → Type 0
  TakesEntries old new piece = (pieces : List Piece) → entries_with new pieces ≡ entries_with old (piece ∷ pieces)

  -- a tree that was read is this one
  abbrev pub HasTree : Result (Resource S) (Error S) → List t.Entry → Type 0
  HasTree (Ok r) es = resource_view S text_of r ≡ es
  HasTree (Err (error.Broken r errors)) es = resource_view S text_of r ≡ es
  HasTree (Err error.Memory) es = Unit {0}

module _ (S : Type 0) where
  -- the errors, with those of more pieces
  abbrev pub errors_with : Collected S → List Piece → List ErrorView
  errors_with r ps = map error_view r.errors.items ++ map error_told (errors_of ps)

  -- a piece was taken in: with any more pieces after it, the errors are the same
  abbrev pub TakesErrors : Collected S → Collected S → Piece → Type 0
  TakesErrors old new piece = (pieces : List Piece) → errors_with new pieces ≡ errors_with old (piece ∷ pieces)

  -- no entries are there: with any pieces, theirs are all
  abbrev pub HasNoEntries : Collected S → Type 0
  HasNoEntries all = (text_of : S → Text) (pieces : List Piece) → entries_with S text_of all pieces ≡ entries_of None pieces

  -- no errors are there: with any pieces, theirs are all
  abbrev pub HasNoErrors : Collected S → Type 0
  HasNoErrors all = (pieces : List Piece) → errors_with all pieces ≡ map error_told (errors_of pieces)

  -- an entry was taken in, from after a blank line or not, by whatever the bytes of a text are
  abbrev pub TakesEntry : Collected S → Collected S → Bool → Entry S → Type 0
  TakesEntry old new apart added = (text_of : S → Text) → TakesEntries S text_of old new (entry apart (entry_view S text_of added))

  -- Entries were put after those that are there, by whatever the bytes of a text are. Which ones goes by the comment
  -- that waited.
  abbrev pub Appends : Collected S → Collected S → ((S → Text) → Option (List Text) → List t.Entry) → Type 0
  Appends old new more = (text_of : S → Text) → body_of S text_of new ≡ body_of S text_of old ++ more text_of (held_by S text_of old)

  -- a comment that waits goes on waiting, unless it stands above a blank line
  abbrev pub KeepsAttached : Collected S → Collected S → Bool → Type 0
  KeepsAttached old new apart = (text_of : S → Text) → held_by S text_of new ≡ attached (held_by S text_of old) apart

  -- The errors that were found are these: a tree alone if there are none, otherwise a tree with them.
  abbrev pub HasErrors : Result (Resource S) (Error S) → List ErrorView → Type 0
  HasErrors (Ok r) es = es ≡ []
  HasErrors (Err (error.Broken r errors)) es = (map error_view errors.items ≡ es) × (es ≢ [])
  HasErrors (Err error.Memory) es = Unit {0}
