-- A walk from the start of a source to its end.
use Rattle.std.proofs.Common.{◌≡◌, ◌∙◌, suc, List, [], ◌∷◌, ◌++◌, length, map, Option, option_to_list, refl, sym, ap, append_assoc}
use Rattle.std.proofs.lemmas.List.{map-append}
use Rattle.lint_findings.proofs.TilesAreTheList.{tiles_have_the_errors}
use Rattle.lint_findings.specs.Tiles as of_source
use Rattle.lint_findings.specs.Tiles.{tiles, tiles_from}
use Rattle.fluent_grammar.specs.Tree as t
use Rattle.fluent_grammar.specs.Words.{Text}
use Rattle.fluent_parsed.specs.ErrorView.{error_told, error_view}
use Rattle.fluent_parsed.specs.declared.errors.ParserError.{ParserError}
use Rattle.lint_entries.specs.Kept.{Part, entry_of_tile, kept_entries, kept_tiles, part_of_tile}
use Rattle.lint_entries.specs.TileView.{AreErrorsOf, IsTreeOf, tile_view}
use Rattle.lint_entries.specs.Walks.{IsBefore, StartsAt}
use Rattle.lint_entries.specs.declared.tile.Tile.{Tile}
use Rattle.lint_entries.specs.declared.walk.Walk.{Walk}
use Rattle.lint_entries.proofs.KeptTree.{errors_are_kept, tree_is_kept}

-- all tiles that are kept are before a walk at the start
pub all_before : (walk : Walk) (source : Text) (errors : List ParserError) → StartsAt walk source errors → AreErrorsOf source errors → IsBefore walk (kept_tiles (tiles source))
all_before walk source errors start are = record {
  tiles = record {
    steps = suc (length source);
    at = 0;
    there = start.at ∙ sym start.of;
    tiles = ap (λ s. kept_tiles (tiles_from (suc (length source)) 0 s)) (sym start.at);
  };
  errors = ap (map error_view) start.found ∙ are ∙ sym (ap (map error_told) (errors_are_kept (tiles source) ∙ tiles_have_the_errors source));
}

pub all_entries : (source : Text) (es : List t.Entry) → IsTreeOf source es → map entry_of_tile (kept_tiles (tiles source)) ≡ kept_entries es
all_entries source es tree = sym (tree_is_kept source) ∙ sym tree

-- one more tile, if it is one, was put after the others
pub one_more : (made after : List Tile) (found : Option Tile) (ahead left : List of_source.Tile) {all : List Part} → after ≡ made ++ option_to_list found →
    map part_of_tile ahead ≡ map tile_view (option_to_list found) ++ map part_of_tile left → map tile_view made ++ map part_of_tile ahead ≡ all →
    map tile_view after ++ map part_of_tile left ≡ all
one_more made after found ahead left pushed passed before =
    ap (λ l. map tile_view l ++ map part_of_tile left) pushed
    ∙ ap (λ l. l ++ map part_of_tile left) (map-append tile_view made (option_to_list found))
    ∙ append_assoc (map tile_view made) (map tile_view (option_to_list found)) (map part_of_tile left)
    ∙ ap (λ l. map tile_view made ++ l) (sym passed)
    ∙ before

-- no entries of a tree are left, so no tiles are
pub none_ahead : (ahead : List of_source.Tile) → map entry_of_tile ahead ≡ [] → map part_of_tile ahead ≡ []
none_ahead [] none = refl
none_ahead (x ∷ xs) none = absurd cc
