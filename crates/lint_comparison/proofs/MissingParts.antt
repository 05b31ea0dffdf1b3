-- What is missing by the parts of a source.
use Rattle.std.proofs.Common.{◌≡◌, ◌∙◌, List, [], ◌∷◌, ◌++◌, map, refl, ap, sym}
use Rattle.std.specs.List.{flat_map}
use Rattle.std.proofs.lemmas.List.{map-append}
use Rattle.std.proofs.lemmas.List.Concat.{flat_map-append}
use Rattle.lint_findings.specs.ComparisonFindings.{missing_findings}
use Rattle.lint_findings.specs.Files.{File}
use Rattle.lint_findings.specs.Findings.{FileFinding, FileTile, findings_in, tiles_in}
use Rattle.lint_findings.specs.Tiles.{Tile, entry_tile, junk_tile, tiles}
use Rattle.fluent_grammar.specs.Tree as t
use Rattle.fluent_grammar.specs.Words.{Text}
use Rattle.fluent_meaning.specs.Ids.{Ids}
use Rattle.lint_entries.specs.Kept.{kept_tiles, part_of_tile, parts}
use Rattle.lint_comparison.specs.Missing.{missing_in, missing_of_part}

module _ (ids : Ids (Unit {0})) where
  of_tiles : (source : Text) (ts : List Tile) → flat_map (missing_of_part ids source) (map part_of_tile (kept_tiles ts)) ≡ flat_map (missing_findings ids source) ts
  of_tiles source [] = refl
  of_tiles source (entry_tile at s (t.message m) ∷ ts) = ap (λ l. missing_findings ids source (entry_tile at s (t.message m)) ++ l) (of_tiles source ts)
  of_tiles source (entry_tile at s (t.term m) ∷ ts) = of_tiles source ts
  of_tiles source (entry_tile at s (t.comment c) ∷ ts) = of_tiles source ts
  of_tiles source (entry_tile at s (t.group_comment c) ∷ ts) = of_tiles source ts
  of_tiles source (entry_tile at s (t.resource_comment c) ∷ ts) = of_tiles source ts
  of_tiles source (entry_tile at s (t.junk x) ∷ ts) = of_tiles source ts
  of_tiles source (junk_tile at s refusal ∷ ts) = of_tiles source ts

  -- by the parts it is what is missing by the tiles
  pub of_parts : (source : Text) → flat_map (missing_of_part ids source) (parts source) ≡ missing_in ids source
  of_parts source = of_tiles source (tiles source)

  abbrev missing_tile : FileTile → List FileFinding
  missing_tile t = findings_in t.file (missing_findings ids t.file.source t.tile)

  of_file : (file : File) (ts : List Tile) → flat_map missing_tile (map (λ tile. record { file = file; tile = tile }) ts) ≡ findings_in file (flat_map (missing_findings ids file.source) ts)
  of_file file [] = refl
  of_file file (tile ∷ ts) =
      let mine = missing_findings ids file.source tile in
      ap (λ l. findings_in file mine ++ l) (of_file file ts)
      ∙ sym (map-append (λ f. record { file = file; finding = f }) mine (flat_map (missing_findings ids file.source) ts))

  -- What is missing by the tiles of files is what is missing by the files, one after the other.
  pub missing_found : (files : List File) →
      flat_map (λ (t : FileTile). findings_in t.file (missing_findings ids t.file.source t.tile)) (flat_map tiles_in files) ≡ flat_map (λ (file : File). findings_in file (missing_in ids file.source)) files
  missing_found [] = refl
  missing_found (file ∷ files) =
      flat_map-append missing_tile (tiles_in file) (flat_map tiles_in files)
      ∙ ap (λ l. l ++ flat_map missing_tile (flat_map tiles_in files)) (of_file file (tiles file.source))
      ∙ ap (λ l. findings_in file (missing_in ids file.source) ++ l) (missing_found files)
