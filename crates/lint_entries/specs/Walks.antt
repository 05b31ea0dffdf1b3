-- What a walk through a source does.
use Rattle.std.specs.Prelude.{◌≡◌, List, ◌∷◌, ◌++◌, drop, map, Option, option_to_list}
use Rattle.std.specs.Slice.Iter.{iter_rest}
use Rattle.lint_findings.specs.PlaceLaws.{tile_errors}
use Rattle.lint_findings.specs.Tiles as of_source
use Rattle.fluent_grammar.specs.Tiling as grammar
use Rattle.fluent_grammar.specs.Tree as t
use Rattle.fluent_grammar.specs.Words.{Text}
use Rattle.fluent_parsed.specs.ErrorView.{error_told, error_view}
use Rattle.fluent_parsed.specs.declared.errors.ParserError.{ParserError}
use Rattle.lint_entries.specs.Ahead.{AreAhead}
use Rattle.lint_entries.specs.Kept.{entry_of_tile, kept_entry, part_of_tile}
use Rattle.lint_entries.specs.TileView.{tile_view}
use Rattle.lint_entries.specs.declared.tile.Tile.{Tile}
use Rattle.lint_entries.specs.declared.walk.Walk.{Walk}

-- a walk at the start of this source, with these errors
pub record StartsAt (walk : Walk) (source : Text) (errors : List ParserError) : Type 0 where
  pub of : walk.source.now ≡ source
  pub at : walk.rest.now ≡ source
  pub found : iter_rest walk.errors ≡ errors

-- these are the tiles that a walk has before it
pub record IsBefore (walk : Walk) (ahead : List of_source.Tile) : Type 0 where
  pub tiles : AreAhead walk.source.now walk.rest.now ahead
  pub errors : map error_view (iter_rest walk.errors) ≡ map error_told (tile_errors ahead)

-- the tiles that a walk has before it are those of this entry, and of others
pub record AreThoseOf (walk : Walk) (e : t.Entry) (es : List (Option t.Entry)) (ahead : List of_source.Tile) : Type 0 where
  pub before : IsBefore walk ahead
  pub entries : map entry_of_tile ahead ≡ kept_entry e ++ es

abbrev pub IsNext : Walk → t.Entry → Type 0
IsNext walk e = (ahead : List of_source.Tile) × (es : List (Option t.Entry)) × AreThoseOf walk e es ahead

-- after this tile, if it is one, these are left
pub record ArePassed (new : Walk) (es : List (Option t.Entry)) (ahead : List of_source.Tile) (found : Option Tile) : Type 0 where
  pub left : List of_source.Tile
  pub before : IsBefore new left
  pub entries : map entry_of_tile left ≡ es
  pub parts : map part_of_tile ahead ≡ map tile_view (option_to_list found) ++ map part_of_tile left

-- the next entry of a tree is passed over
abbrev pub Passes : Walk → Walk → t.Entry → Option Tile → Type 0
Passes old new e found = (ahead : List of_source.Tile) (es : List (Option t.Entry)) → AreThoseOf old e es ahead → ArePassed new es ahead found

-- the junk of the next error is passed over
pub record IsAfterJunk (old new : Walk) (error : grammar.ParserError) (errors : List grammar.ParserError) : Type 0 where
  pub source : new.source.now ≡ old.source.now
  pub rest : new.rest.now ≡ drop error.slice_end old.source.now
  pub left : map error_view (iter_rest new.errors) ≡ map error_told errors

abbrev pub SkipsJunk : Walk → Walk → Type 0
SkipsJunk old new = (error : grammar.ParserError) (errors : List grammar.ParserError) →
    map error_view (iter_rest old.errors) ≡ map error_told (error ∷ errors) → IsAfterJunk old new error errors
