-- The file of a reference at an index, with what is known of it.
use Rattle.std.proofs.Common.{◌≡◌, ◌∙◌, ℕ, ◌<◌, List, Option, None, Some, length, get_or, map, refl, sym, subst, ap}
use Rattle.std.proofs.lemmas.Option.{get_or_from_slice_get, slice_get-map, slice_get_within}
use Rattle.std.specs.List.{slice_get}
use Rattle.std.specs.Option.{option_map, option_map_or}
use Rattle.fluent_ids.specs.IdsView.{ids_view}
use Rattle.fluent_ids.specs.declared.ids.FluentIds.{FluentIds}
use Rattle.lint_findings.specs.View.{file_view, finding_view}
use Rattle.lint_findings.specs.declared.records.File.{File}
use Rattle.lint_findings.specs.declared.records.FileFindings.{FileFindings}
use Rattle.lint_findings.specs.Files as f
use Rattle.fluent_lint.specs.FileTiles.{AreTilesOf, files_of, files_view}
use Rattle.fluent_lint.specs.Own.{AreOwn, own_ids_of, wide_ids_of, wide_view}
use Rattle.fluent_lint.specs.ReferenceView.{IsReference, file_found, files_found, named_by}
use Rattle.fluent_lint.specs.Translated.{FileFound}
use Rattle.fluent_lint.specs.declared.own.OwnFiles.{OwnFiles}
use Rattle.fluent_lint.specs.declared.reference.ReferenceCatalog.{ReferenceCatalog}
use Rattle.fluent_lint.specs.declared.tiles.FileTiles.{FileTiles}
use Rattle.fluent_lint.proofs.Parallel.{same_at, same_length}

-- there are ids of each file with tiles
pub ids_inside : (own : OwnFiles) → AreOwn own → (i : ℕ) → i < length own.tiles.items → i < length own.ids.items
ids_inside own are i inside =
    subst (λ n. i < n) (sym (same_length (ids_view (Unit {0})) own_ids_of own.ids.items own.tiles.items are.ids)) inside

-- those of the file at an index are its own
pub own_at : (own : OwnFiles) → AreOwn own → (i : ℕ) (t : FileTiles) (ids : FluentIds (Unit {0})) → i < length own.tiles.items →
    t ≡ get_or own.tiles.items i t → ids ≡ get_or own.ids.items i ids → AreTilesOf t × (ids_view (Unit {0}) ids ≡ own_ids_of t)
own_at own are i t ids inside tiles_is ids_is = (
  subst AreTilesOf (sym tiles_is) (are.tiles i t inside),
  ap (ids_view (Unit {0})) ids_is
      ∙ same_at (ids_view (Unit {0})) own_ids_of own.ids.items own.tiles.items are.ids i ids t (ids_inside own are i inside)
      ∙ ap own_ids_of (sym tiles_is),
)

-- and there are ids of all files beside each
pub wide_inside : (own : OwnFiles) → AreOwn own → (i : ℕ) → i < length own.tiles.items → i < length own.wide.items
wide_inside own are i inside =
    let files = files_view (files_of own.tiles.items) in
    subst (λ n. i < n) (sym (same_length wide_view (wide_ids_of files) own.wide.items own.tiles.items are.wide)) inside

pub wide_at : (own : OwnFiles) → AreOwn own → (i : ℕ) (t : FileTiles) (w : Option (FluentIds (Unit {0}))) → i < length own.tiles.items →
    t ≡ get_or own.tiles.items i t → w ≡ get_or own.wide.items i w → wide_view w ≡ wide_ids_of (files_view (files_of own.tiles.items)) t
wide_at own are i t w inside tiles_is wide_is =
    let files = files_view (files_of own.tiles.items) in
    ap wide_view wide_is
    ∙ same_at wide_view (wide_ids_of files) own.wide.items own.tiles.items are.wide i w t (wide_inside own are i inside)
    ∙ ap (wide_ids_of files) (sym tiles_is)

module _ (reference : ReferenceCatalog) (right : IsReference reference) (i : ℕ) where
  abbrev tiled : List FileTiles
  tiled = reference.own.tiles.items

  abbrev found : List FileFindings
  found = reference.found.items

  same_files : files_of tiled ≡ named_by found
  same_files = right.tiles ∙ sym right.found.named

  pub tiles_inside : (one : FileFindings) → slice_get found i ≡ Some one → i < length tiled
  tiles_inside one is =
      subst (λ n. i < n) (sym (same_length (λ (t : FileTiles). t.file) (λ (f : FileFindings). f.file) tiled found same_files)) (slice_get_within found i one is)

  -- the findings of the file at the index are those of the file with its tiles
  pub found_there : (one : FileFindings) (t : FileTiles) → slice_get found i ≡ Some one → t ≡ get_or tiled i t →
      Some (record { file = file_view t.file; findings = map finding_view one.findings.items }) ≡ slice_get (files_found found) i
  found_there one t is tiles_is =
      let file : t.file ≡ one.file =
      ap (λ (x : FileTiles). x.file) tiles_is
      ∙ same_at (λ (x : FileTiles). x.file) (λ (f : FileFindings). f.file) tiled found same_files i t one (tiles_inside one is)
      ∙ ap (λ (f : FileFindings). f.file) (get_or_from_slice_get found i one one is) in
      let made : File → FileFound = λ g. record { file = file_view g; findings = map finding_view one.findings.items } in
      ap (λ g. Some (made g)) file ∙ sym (slice_get-map file_found found i ∙ ap (option_map file_found) is)

  -- what is said of the file at the index
  pub said_at : {Y : Type 0} (of_file : f.File → Y) (none : Y) →
      option_map_or of_file (slice_get (files_view reference.read.now.files.now) i) none ≡ option_map_or (λ (t : FileTiles). of_file (file_view t.file)) (slice_get tiled i) none
  said_at of_file none =
      ap (λ fs. option_map_or of_file (slice_get (files_view fs) i) none) (sym right.tiles)
      ∙ ap (λ o. option_map_or of_file o none)
      (slice_get-map file_view (files_of tiled) i ∙ ap (option_map file_view) (slice_get-map (λ (t : FileTiles). t.file) tiled i))
      ∙ mapped (slice_get tiled i)
    where
      mapped : (o : Option FileTiles) → option_map_or of_file (option_map file_view (option_map (λ (t : FileTiles). t.file) o)) none
          ≡ option_map_or (λ (t : FileTiles). of_file (file_view t.file)) o none
      mapped None = refl
      mapped (Some t) = refl
