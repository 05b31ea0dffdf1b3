-- A walk passes over one entry of the tree after the other.
use Rattle.std.proofs.Common.{◌≡◌, ◌∙◌, List, [], ◌∷◌, ◌++◌, map, true, Option, Some, None, refl, sym, ap, subst}
use Rattle.std.specs.Slice.Iter.{iter_rest}
use Rattle.lint_findings.specs.PlaceLaws.{tile_errors}
use Rattle.lint_findings.specs.Tiles as of_source
use Rattle.fluent_grammar.proofs.Got.{got_node}
use Rattle.fluent_grammar.specs.Reading.{entry_at}
use Rattle.fluent_grammar.specs.Refusal.{got}
use Rattle.fluent_grammar.specs.Tiling.{error_of}
use Rattle.fluent_grammar.specs.Tree as t
use Rattle.fluent_grammar.specs.Words.{Text}
use Rattle.fluent_parsed.specs.ErrorView.{error_told, error_view}
use Rattle.lint_entries.specs.Ahead.{AreAhead}
use Rattle.lint_entries.specs.Kept.{entry_of_tile, entry_part, junk_part, kept_entry, part_of_tile}
use Rattle.lint_entries.specs.Starts.{next_start}
use Rattle.lint_entries.specs.TileView.{tile_view}
use Rattle.lint_entries.specs.Walks.{AreThoseOf, ArePassed, SkipsJunk}
use Rattle.lint_entries.specs.declared.tile.Tile.{Tile}
use Rattle.lint_entries.specs.declared.walk.Walk.{Walk}
use Rattle.lint_entries.proofs.Ahead.{FoundEntry, FoundJunk, find_entry, find_junk}

find_ahead : (source rest : Text) (ahead : List of_source.Tile) (plain : t.Entry) (es : List (Option t.Entry)) → AreAhead source rest ahead →
    map entry_of_tile ahead ≡ Some plain ∷ es → FoundEntry source rest plain es ahead
find_ahead source rest ahead plain es are entries =
    subst (FoundEntry source rest plain es) (sym are.tiles) (find_entry source plain es are.steps are.at rest are.there (ap (map entry_of_tile) (sym are.tiles) ∙ entries))

junk_ahead : (source rest : Text) (ahead : List of_source.Tile) (es : List (Option t.Entry)) → AreAhead source rest ahead →
    map entry_of_tile ahead ≡ None ∷ es → FoundJunk source es ahead
junk_ahead source rest ahead es are entries =
    subst (FoundJunk source es) (sym are.tiles) (find_junk source es are.steps are.at rest are.there (ap (map entry_of_tile) (sym are.tiles) ∙ entries))

module _ (old new : Walk) (e plain : t.Entry) (kept : kept_entry e ≡ Some plain ∷ []) (es : List (Option t.Entry)) (ahead : List of_source.Tile) (are : AreThoseOf old e es ahead) where
  -- a message or a term is where the walk looks for it
  pub found : FoundEntry old.source.now old.rest.now plain es ahead
  found = find_ahead old.source.now old.rest.now ahead plain es are.before.tiles (are.entries ∙ ap (λ l. l ++ es) kept)

  -- it is passed over
  pub entry_passed : (tile : Tile) (text : Text) → text ≡ next_start true old.rest.now → entry_at text ≡ got plain new.rest.now →
      new.source.now ≡ old.source.now → iter_rest new.errors ≡ iter_rest old.errors → tile_view tile ≡ entry_part text plain → ArePassed new es ahead (Some tile)
  entry_passed tile text start read source errors view =
      let f = found in
      let rest : f.rest ≡ new.rest.now = (got_node (sym f.read ∙ sym (ap entry_at start) ∙ read)).1 in
      record {
        left = f.left;
        before = record {
          tiles = subst (λ s. AreAhead s new.rest.now f.left) (sym source) (subst (λ r. AreAhead old.source.now r f.left) rest f.after);
          errors = ap (map error_view) errors ∙ are.before.errors ∙ ap (λ ts. map error_told (tile_errors ts)) f.is;
        };
        entries = f.others;
        parts = ap (map part_of_tile) f.is ∙ ap (λ p. p ∷ map part_of_tile f.left) (sym (view ∙ ap (λ s. entry_part s plain) start));
      }

-- junk is passed over
pub junk_passed : (old new : Walk) (es : List (Option t.Entry)) (ahead : List of_source.Tile) (e : t.Entry) → kept_entry e ≡ None ∷ [] → AreThoseOf old e es ahead → SkipsJunk old new →
    (tile : Tile) → tile_view tile ≡ junk_part → ArePassed new es ahead (Some tile)
junk_passed old new es ahead e kept are skips tile view =
    let f = junk_ahead old.source.now old.rest.now ahead es are.before.tiles (are.entries ∙ ap (λ l. l ++ es) kept) in
    let after = skips (error_of f.at f.text f.refusal) (tile_errors f.left) (are.before.errors ∙ ap (λ ts. map error_told (tile_errors ts)) f.is) in
    record {
      left = f.left;
      before = record {
        tiles = subst (λ s. AreAhead s new.rest.now f.left) (sym after.source) (subst (λ r. AreAhead old.source.now r f.left) (sym after.rest) f.after);
        errors = after.left;
      };
      entries = f.others;
      parts = ap (map part_of_tile) f.is ∙ ap (λ p. p ∷ map part_of_tile f.left) (sym view);
    }

-- a comment stands for no tile
pub comment_passed : (walk : Walk) (e : t.Entry) → kept_entry e ≡ [] → (es : List (Option t.Entry)) (ahead : List of_source.Tile) → AreThoseOf walk e es ahead → ArePassed walk es ahead None
comment_passed walk e kept es ahead are = record {
  left = ahead;
  before = are.before;
  entries = are.entries ∙ ap (λ l. l ++ es) kept;
  parts = refl;
}
