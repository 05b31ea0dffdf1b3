-- Files with the ids of their own.
use Rattle.std.specs.Prelude.{◌≡◌, All, Bool, if◌then◌else◌, List, [], Option, Some, None, false, Vec, map, option_map, unwrap_or}
use Rattle.std.specs.Global.{Global}
use denote.Ref.{Bor}
use Rattle.fluent_ast.specs.Borrowed.{entries_of}
use Rattle.fluent_ast.specs.declared.Resource.{Resource}
use Rattle.fluent_grammar.specs.Words.{Text}
use Rattle.fluent_ids.specs.IdsView.{ids_view}
use Rattle.fluent_ids.specs.declared.ids.FluentIds.{FluentIds}
use Rattle.fluent_meaning.specs.Ids.{Ids, entries_by_id, with_ids}
use Rattle.fluent_plurals.specs.declared.plurals.LanguagePlurals.{LanguagePlurals}
use Rattle.lint_nodes.specs.HasNames.{HasNames}
use Rattle.lint_nodes.specs.declared.name_set.Names.{Names}
use Rattle.lint_entries.specs.Kept.{Part}
use Rattle.lint_entries.specs.Made.{Adds}
use Rattle.lint_entries.specs.TileView.{tile_view}
use Rattle.lint_entries.specs.declared.tile.Tile.{Tile}
use Rattle.lint_findings.specs.View.{file_view}
use Rattle.lint_findings.specs.declared.records.Finding.{Finding}
use Rattle.lint_findings.specs.Files as f
use Rattle.lint_findings.specs.Finding as finding
use Rattle.fluent_lint.specs.FileTiles.{AreTilesOf, files_of, files_view}
use Rattle.fluent_lint.specs.Known.{trees_by_id}
use Rattle.fluent_lint.specs.Pairs.{own_ids}
use Rattle.fluent_lint.specs.Shown.{Catalogs, any_refers_out, compared, differences, ids_with, if_first, is_first, wide_ids}
use Rattle.fluent_lint.specs.declared.own.OwnFiles.{OwnFiles}
use Rattle.fluent_lint.specs.declared.pairs.OwnFile.{OwnFile}
use Rattle.fluent_lint.specs.declared.tiles.FileTiles.{FileTiles}

-- what the ids of each file stand for
abbrev pub ids_views : List (FluentIds (Unit {0})) → List (Ids (Unit {0}))
ids_views all = map (ids_view (Unit {0})) all

abbrev pub ids_of_tree : Resource (Bor Text) → Ids (Unit {0})
ids_of_tree tree = with_ids false [] (entries_by_id (entries_of tree))

-- these are the ids of trees, each by itself
abbrev pub AreOwnIds : List (Resource (Bor Text)) → Vec (FluentIds (Unit {0})) Global → Type 0
AreOwnIds trees all = ids_views all.items ≡ map ids_of_tree trees

abbrev pub own_ids_of : FileTiles → Ids (Unit {0})
own_ids_of tiles = own_ids tiles.file.source.now

-- ---- and of the files beside them

-- the ids of a tree, and then those of all trees, if a message of the tree refers to one that isn't in it
abbrev pub wide_of_tree : List (Resource (Bor Text)) → Resource (Bor Text) → Option (Ids (Unit {0}))
wide_of_tree trees tree =
    if any_refers_out (ids_of_tree tree) (entries_of tree) then Some (with_ids false (ids_of_tree tree) (trees_by_id trees)) else None

abbrev pub wide_view : Option (FluentIds (Unit {0})) → Option (Ids (Unit {0}))
wide_view = option_map (ids_view (Unit {0}))

abbrev pub wide_views : List (Option (FluentIds (Unit {0}))) → List (Option (Ids (Unit {0})))
wide_views all = map wide_view all

abbrev pub AreWideIds : List (Resource (Bor Text)) → Vec (Option (FluentIds (Unit {0}))) Global → Type 0
AreWideIds trees all = wide_views all.items ≡ map (wide_of_tree trees) trees

abbrev pub wide_ids_of : List f.File → FileTiles → Option (Ids (Unit {0}))
wide_ids_of files tiles = wide_ids files (file_view tiles.file)

-- the tiles and the ids of each file are those of its source
pub record AreOwn (own : OwnFiles) : Type 0 where
  pub tiles : All AreTilesOf own.tiles.items
  pub ids : ids_views own.ids.items ≡ map own_ids_of own.tiles.items
  pub wide : wide_views own.wide.items ≡ map (wide_ids_of (files_view (files_of own.tiles.items))) own.tiles.items

-- so are those of one file
pub record IsOwn (own : OwnFile) : Type 0 where
  pub tiles : AreTilesOf own.tiles.now
  pub ids : ids_view (Unit {0}) own.ids.now ≡ own_ids_of own.tiles.now

-- the ids of all files beside a file are those of these
abbrev pub wide_in : OwnFile → Option (Ids (Unit {0}))
wide_in own = option_map (λ ids. ids_view (Unit {0}) ids.now) own.wide

abbrev pub IsWideIn : List f.File → OwnFile → Type 0
IsWideIn files own = wide_in own ≡ wide_ids_of files own.tiles.now

-- what the messages of a file are shown with
abbrev pub shown_view : OwnFile → Ids (Unit {0})
shown_view own = unwrap_or (wide_in own) (ids_view (Unit {0}) own.ids.now)

-- these are the files of a language and of its reference
pub record AreShown (catalogs : Catalogs) (own original : OwnFile) : Type 0 where
  pub mine : IsWideIn catalogs.mine own
  pub theirs : IsWideIn catalogs.theirs original

-- ---- how messages differ

abbrev pub compared_in : Option LanguagePlurals → OwnFile → OwnFile → Part → List finding.Finding
compared_in plurals own original =
    compared plurals (shown_view own) (shown_view original) (ids_view (Unit {0}) own.ids.now) (ids_view (Unit {0}) original.ids.now) own.tiles.now.file.source.now

-- how a tile differs is added, if it is the first of its id: the ids before it are known
abbrev pub AddsIfFirst : Option LanguagePlurals → OwnFile → OwnFile → Tile → Names → Vec Finding Global → Vec Finding Global → Type 0
AddsIfFirst plurals own original tile known old new =
    (ids : List Text) → HasNames known ids → Adds old new (if_first (compared_in plurals own original) ids (tile_view tile))

-- whether it is, and the ids after it
abbrev pub IsFirstTile : Tile → Names → Bool → Type 0
IsFirstTile tile known is = (ids : List Text) → HasNames known ids → is ≡ is_first ids (tile_view tile)

abbrev pub GetsTile : Names → Tile → Names → Type 0
GetsTile old tile new = (ids : List Text) → HasNames old ids → HasNames new (ids_with ids (tile_view tile))

-- how the messages of a file differ from those that they are translated from is added
abbrev pub AddsDifferences : Option LanguagePlurals → OwnFile → OwnFile → Vec Finding Global → Vec Finding Global → Type 0
AddsDifferences plurals own original old new = (catalogs : Catalogs) → AreShown catalogs own original
    → Adds old new (differences plurals catalogs.mine catalogs.theirs (file_view own.tiles.now.file) (file_view original.tiles.now.file))
