-- What each call adds.
use Rattle.std.specs.Prelude.{◌≡◌, ◌-◌, Bool, List, [], ◌∷◌, ◌++◌, if◌then◌else◌, length, map, Option, None, Vec}
use Rattle.std.specs.Global.{Global}
use Rattle.std.specs.Vec.Iter.{into_iter_items}
use Rattle.fluent_grammar.specs.Tree as t
use Rattle.fluent_ids.specs.IdsView.{ids_view}
use Rattle.fluent_ids.specs.declared.ids.FluentIds.{FluentIds}
use Rattle.fluent_plurals.specs.declared.plurals.LanguagePlurals.{LanguagePlurals}
use Rattle.lint_entries.specs.CatalogView.{ids_in, reference_in}
use Rattle.lint_entries.specs.declared.catalog.Catalog.{Catalog}
use Rattle.lint_files.specs.PartFindings.{declared_by, declared_by_parts, entry_findings_at, findings_of_parts, offset_in}
use Rattle.lint_files.specs.RulesView.{rules_view}
use Rattle.lint_files.specs.declared.cursor.Cursor.{Cursor}
use Rattle.lint_files.specs.declared.entry.PlacedEntry.{PlacedEntry}
use Rattle.lint_files.specs.declared.rules.Rules as code
use Rattle.lint_entries.specs.First.{AreFirst}
use Rattle.lint_entries.specs.declared.declarations.Declarations.{Declarations}
use Rattle.lint_entries.specs.AttributePlaces.{IsEntryAt, bare_entry}
use Rattle.lint_entries.specs.Made.{Adds}
use Rattle.lint_findings.specs.View.{file_view, finding_view}
use Rattle.lint_findings.specs.declared.records.File.{File}
use Rattle.lint_findings.specs.declared.records.Finding.{Finding}
use Rattle.lint_findings.specs.DuplicateIds.{Declaration}
use Rattle.lint_findings.specs.Finding as f
use Rattle.lint_findings.specs.Findings.{Rules, is_copy, is_quoted, own_findings, unless_quoted}
use Rattle.lint_findings.specs.UnusedTerms.{unused_findings}
use Rattle.fluent_grammar.specs.Words.{Text}
use Rattle.lint_findings.specs.PlaceView.{IsPlaceIn}
use Rattle.lint_entries.specs.Kept.{Part, entry_part}
use Rattle.lint_entries.specs.TileView.{tile_view}
use Rattle.lint_entries.specs.declared.tile.Tile.{Tile}

-- ---- an entry

-- The entry is read at its place.
pub record IsPlaced (placed : PlacedEntry) : Type 0 where
  pub place : IsPlaceIn placed.file.source.now placed.place
  pub offset : placed.place.offset ≡ length placed.file.source.now - length placed.text.now
  pub read : IsEntryAt (bare_entry placed.entry.now) placed.text.now

-- as a part of its source
abbrev pub placed_part : PlacedEntry → Part
placed_part placed = entry_part placed.text.now (bare_entry placed.entry.now)

-- The declarations of a part come after those that are known.
abbrev pub Declares : Declarations → Declarations → File → Part → Type 0
Declares old new file part = (before : List Declaration) → AreFirst old before → AreFirst new (before ++ declared_by (file_view file) part)

abbrev pub DeclaresPlaced : Declarations → Declarations → PlacedEntry → Type 0
DeclaresPlaced old new placed = Declares old new placed.file (placed_part placed)

-- The findings of an entry are added, after the declarations that are known.
abbrev pub AddsPlaced : code.Rules → PlacedEntry → Declarations → Vec Finding Global → Vec Finding Global → Type 0
AddsPlaced rules placed known old new = (before : List Declaration) → AreFirst known before →
    Adds old new (entry_findings_at (rules_view rules) (file_view placed.file) before placed.text.now (bare_entry placed.entry.now))

abbrev pub own_of : Rules → PlacedEntry → List f.Finding
own_of rules placed = own_findings rules placed.file.source.now (bare_entry placed.entry.now) placed.text.now

-- what is known of a catalog, by these plural rules
pub record IsCatalogBy (rules : Option LanguagePlurals) (catalog made : Catalog) : Type 0 where
  pub ids : ids_in made ≡ ids_in catalog
  pub reference : reference_in made ≡ reference_in catalog
  pub plurals : made.plurals ≡ rules

-- by those for an entry: none for a copy of the reference's
abbrev pub IsCatalogFor : Catalog → t.Entry → Catalog → Type 0
IsCatalogFor catalog e made = IsCatalogBy (if is_copy (reference_in catalog) e then None else catalog.plurals) catalog made

abbrev pub compared_findings : Rules → PlacedEntry → List f.Finding
compared_findings rules placed = rules.compare placed.file.source.now (bare_entry placed.entry.now) placed.text.now

abbrev pub AddsOwn : Rules → PlacedEntry → Vec Finding Global → Vec Finding Global → Type 0
AddsOwn rules placed old new = Adds old new (own_of rules placed)

-- these are left of findings of an entry, if placeables in quotes are right there
abbrev pub AreUnquoted : FluentIds (Unit {0}) → t.Entry → Vec Finding Global → Vec Finding Global → Type 0
AreUnquoted reference e old new =
    map finding_view new.items ≡ unless_quoted (is_quoted (ids_view (Unit {0}) reference) e) (map finding_view old.items)

-- whether it is a term that nothing refers to
abbrev pub unused_of : Rules → PlacedEntry → List f.Finding
unused_of rules placed =
    unused_findings rules.is_referred (bare_entry placed.entry.now) (offset_in (file_view placed.file) placed.text.now)

abbrev pub AddsUnused : Rules → PlacedEntry → Vec Finding Global → Vec Finding Global → Type 0
AddsUnused rules placed old new = Adds old new (unused_of rules placed)

abbrev pub AddsComparison : Rules → PlacedEntry → Vec Finding Global → Vec Finding Global → Type 0
AddsComparison rules placed old new = Adds old new (compared_findings rules placed)

abbrev pub AddsIfFirst : Rules → PlacedEntry → Bool → Vec Finding Global → Vec Finding Global → Type 0
AddsIfFirst rules placed is_new old new =
    Adds old new (if is_new then unused_of rules placed ++ compared_findings rules placed else [])

-- ---- a tile

abbrev pub IsCursorIn : Cursor → Type 0
IsCursorIn cursor = IsPlaceIn cursor.file.source.now cursor.place

-- The cursor is where this is left of the source.
pub record IsAt (cursor : Cursor) (text : Text) : Type 0 where
  pub place : IsPlaceIn cursor.file.source.now cursor.place
  pub offset : cursor.place.offset ≡ length cursor.file.source.now - length text

-- The cursor is still in the file.
pub record StaysIn (old new : Cursor) : Type 0 where
  pub file : new.file ≡ old.file
  pub place : IsCursorIn new

pub record MovesTo (old new : Cursor) : Type 0 where
  pub file : new.file ≡ old.file
  pub syntax : new.syntax ≡ old.syntax

-- the syntax findings that are left
abbrev pub syntax_left : Cursor → List f.Finding
syntax_left cursor = map finding_view (into_iter_items cursor.syntax)

-- The first of the syntax findings is added, if there is one, and the others are left.
pub record AddsSyntax (old new : Cursor) (before after : Vec Finding Global) : Type 0 where
  pub file : new.file ≡ old.file
  pub place : new.place ≡ old.place
  pub one : (first : f.Finding) (others : List f.Finding) → syntax_left old ≡ first ∷ others →
      (syntax_left new ≡ others) × Adds before after (first ∷ [])
  pub none : syntax_left old ≡ [] → (syntax_left new ≡ []) × Adds before after []

abbrev pub DeclaresTile : Declarations → Declarations → File → Tile → Type 0
DeclaresTile old new file tile = Declares old new file (tile_view tile)

-- what is found of parts from a cursor on
abbrev pub found_from : Rules → Cursor → List Declaration → List Part → List f.Finding
found_from rules cursor before ps = findings_of_parts rules (file_view cursor.file) before (syntax_left cursor) ps

-- how far the findings of a file are made: the cursor, and those before it
pub record FoundSoFar : Type 0 where
  pub cursor : Cursor
  pub made : Vec Finding Global

abbrev pub found_so_far : Cursor → Vec Finding Global → FoundSoFar
found_so_far cursor made = record { cursor = cursor; made = made }

-- all findings of a file, if these parts are left of it
abbrev pub all_found : Rules → FoundSoFar → List Declaration → List Part → List f.Finding
all_found rules at before ps = map finding_view at.made.items ++ found_from rules at.cursor before ps

-- The findings of a tile are added: with those of the parts that are left they are those of all.
abbrev pub AddsTile : Rules → Declarations → Tile → FoundSoFar → FoundSoFar → Type 0
AddsTile rules known tile old new = (before : List Declaration) → AreFirst known before → (ps : List Part) →
    all_found rules new (before ++ declared_by (file_view old.cursor.file) (tile_view tile)) ps
    ≡ all_found rules old before (tile_view tile ∷ ps)

-- ---- tiles

abbrev pub DeclaresTiles : Declarations → Declarations → File → List Tile → Type 0
DeclaresTiles old new file tiles = (before : List Declaration) → AreFirst old before →
    AreFirst new (before ++ declared_by_parts (file_view file) (map tile_view tiles))

abbrev pub AddsTiles : code.Rules → Cursor → List Tile → Declarations → Vec Finding Global → Vec Finding Global → Type 0
AddsTiles rules start tiles known old new = (before : List Declaration) → AreFirst known before →
    Adds old new (found_from (rules_view rules) start before (map tile_view tiles))

-- these are the findings of a file with these tiles and syntax findings
abbrev pub IsFoundAfter : Rules → Declarations → File → List Tile → Vec Finding Global → Vec Finding Global → Type 0
IsFoundAfter rules known file tiles syntax found = (before : List Declaration) → AreFirst known before →
    map finding_view found.items ≡ findings_of_parts rules (file_view file) before (map finding_view syntax.items) (map tile_view tiles)
