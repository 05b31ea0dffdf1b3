-- Ids that several files have, as the code finds them.
use Rattle.std.specs.Prelude.{◌≡◌, ◌++◌, ℕ, Bool, List, Option, Some, Vec, [], option_map}
use Rattle.std.specs.Global.{Global}
use denote.Ref.{Bor}
use Rattle.fluent_ast.specs.Borrowed.{entry_of}
use Rattle.fluent_ast.specs.declared.Entry.{Entry}
use Rattle.fluent_grammar.specs.Tree as t
use Rattle.fluent_grammar.specs.Words.{Text}
use Rattle.fluent_ids.specs.IdsView.{ids_view}
use Rattle.fluent_ids.specs.declared.ids.FluentIds.{FluentIds}
use Rattle.fluent_meaning.specs.Ids.{Ids}
use Rattle.lint_nodes.specs.HasNames.{HasNames}
use Rattle.lint_entries.specs.First.{AreFirst}
use Rattle.lint_entries.specs.Made.{Adds}
use Rattle.lint_entries.specs.TileView.{tile_view}
use Rattle.lint_entries.specs.declared.declarations.Declarations.{Declarations}
use Rattle.lint_entries.specs.declared.tile.Tile.{Tile}
use Rattle.lint_findings.specs.View.{file_view}
use Rattle.lint_findings.specs.declared.places.SourcePosition.{SourcePosition}
use Rattle.lint_findings.specs.declared.records.Finding.{Finding}
use Rattle.lint_findings.specs.DuplicateIds.{Declaration, declarations, duplicate_findings}
use Rattle.fluent_lint.specs.Taken.{Met, counts, declared_with, met_after, met_at, taken, taken_at, taken_by}
use Rattle.fluent_lint.specs.declared.taken.Looked.{Looked}
use Rattle.fluent_lint.specs.declared.taken.Seen.{Seen}
use Rattle.fluent_lint.specs.declared.tiles.FileTiles.{FileTiles}

abbrev pub original_view : Option (Bor (FluentIds (Unit {0}))) → Option (Ids (Unit {0}))
original_view ids = option_map (λ ids. ids_view (Unit {0}) ids.now) ids

-- the findings of the ids that earlier files have are added
abbrev pub AddsTaken : Option (Bor (FluentIds (Unit {0}))) → FileTiles → Declarations → Vec Finding Global → Vec Finding Global → Type 0
AddsTaken original tiled others old new =
    (before : List Declaration) → AreFirst others before → Adds old new (taken (original_view original) (file_view tiled.file) before)

-- and the file's own are declared
abbrev pub GetsDeclared : Option (Bor (FluentIds (Unit {0}))) → FileTiles → Declarations → Declarations → Type 0
GetsDeclared original tiled old new =
    (before : List Declaration) → AreFirst old before → AreFirst new (declared_with (original_view original) (file_view tiled.file) before)

-- ---- one entry after the other

-- the ids of this file that were seen, and the declarations, are those that were met
pub record AreMet (seen : Seen) (others : Declarations) (met : Met) : Type 0 where
  pub before : AreFirst others met.before
  pub ids : HasNames seen.ids met.ids

abbrev pub of_looked : Looked → Option (Ids (Unit {0}))
of_looked looked = original_view looked.original

-- after a tile these were met, and it was found that its id is taken
abbrev pub MeetsTile : Looked → Tile → Seen → Declarations → Seen → Declarations → Type 0
MeetsTile looked tile old others new others' =
    (met : Met) → AreMet old others met → AreMet new others' (met_after (of_looked looked) (file_view looked.file) met (tile_view tile))

abbrev pub FindsTile : Looked → Tile → Seen → Declarations → Vec Finding Global → Vec Finding Global → Type 0
FindsTile looked tile seen others old new =
    (met : Met) → AreMet seen others met → Adds old new (taken_by (of_looked looked) (file_view looked.file) met (tile_view tile))

-- the same of an entry of an id at an offset
abbrev pub MeetsEntry : Looked → ℕ → Entry (Bor Text) → Text → Seen → Declarations → Seen → Declarations → Type 0
MeetsEntry looked at e id old others new others' =
    (met : Met) → AreMet old others met → AreMet new others' (met_at (of_looked looked) (file_view looked.file) met at (entry_of e) (Some id))

abbrev pub Finds : Looked → ℕ → Entry (Bor Text) → Text → Seen → Declarations → Vec Finding Global → Vec Finding Global → Type 0
Finds looked at e id seen others old new =
    (met : Met) → AreMet seen others met → Adds old new (taken_at (of_looked looked) (file_view looked.file) met at (entry_of e) (Some id))

-- whether an entry counts, by the ids that were seen
abbrev pub CountsBy : Looked → Seen → t.Entry → Text → Bool → Type 0
CountsBy looked seen e id is = (ids : List Text) → HasNames seen.ids ids → is ≡ counts (of_looked looked) (file_view looked.file) ids e id

-- An entry that counts is declared after the others, and is found if its id is taken.
abbrev pub AddsDuplicate : Declarations → t.Entry → ℕ → Text → Vec Finding Global → Vec Finding Global → Type 0
AddsDuplicate others e at id old new =
    (before : List Declaration) → AreFirst others before → Adds old new (duplicate_findings {F = Unit {0}} [] before e at id)

abbrev pub DeclaresEntry : Looked → t.Entry → ℕ → Text → Declarations → Declarations → Type 0
DeclaresEntry looked e at id old new =
    (before : List Declaration) → AreFirst old before → AreFirst new (before ++ declarations (file_view looked.file) e at (Some id))

abbrev pub AddsAt : Declarations → Entry (Bor Text) → SourcePosition → Text → Vec Finding Global → Vec Finding Global → Type 0
AddsAt others entry place id old new = AddsDuplicate others (entry_of entry) place.offset id old new

abbrev pub DeclaresAt : Looked → Entry (Bor Text) → SourcePosition → Text → Declarations → Declarations → Type 0
DeclaresAt looked entry place id old new = DeclaresEntry looked (entry_of entry) place.offset id old new
