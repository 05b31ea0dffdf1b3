-- Where entries and their patterns are: at ends of the source. The selects of an entry are among those of its source.
use Rattle.std.proofs.Common.{◌≡◌, ◌∙◌, ℕ, zero, suc, ◌-◌, ◌==◌, Bool, true, false, if◌then◌else◌, List, [], ◌∷◌, ◌++◌, length, drop, refl, sym, ap, subst, arith}
use Rattle.std.specs.Prelude.{is_some, ◌+◌}
use Rattle.std.specs.List.{All, flat_map}
use Rattle.std.proofs.Math.Seq.{drop-append_seam}
use Rattle.std.proofs.lemmas.Grind.{flat_map-append}
use Rattle.std.proofs.lemmas.List.{length-append}
use Rattle.std.proofs.lemmas.List.Elements.{All-nil, All-cons, All-weaker, Contains-append_left, Contains-append_right}
use Rattle.fluent_grammar.specs.Words.{Text, hyphen, dot, begins_with, name_len, skip_spaces, skip_blank_block}
use Rattle.fluent_grammar.specs.Refusal.{Reading, got, refused}
use Rattle.fluent_grammar.specs.Tree as t
use Rattle.fluent_grammar.specs.Tree.{Elements, Variants}
use Rattle.fluent_grammar.specs.Ends.{EndsIn}
use Rattle.fluent_grammar.specs.Reading.{attribute_at, entry_at}
use Rattle.fluent_grammar.specs.Tiling.{behind_junk, at_column_zero, listed}
use Rattle.fluent_grammar.proofs.Within.{Fair, end-same, end-none, end-drop, end-if, end-spaces, end-blank_block, attribute-fair, entry-fair}
use Rattle.fluent_grammar.proofs.TilesJunk.{resume-end}
use Rattle.lint_findings.specs.Tiles.{Tile, entry_tile, junk_tile, tiles, and_tiles, tiles_from}
use Rattle.lint_findings.specs.Flaws.{Owner, elements_selects, entry_patterns}
use Rattle.lint_findings.specs.Occurrences.{pattern_read, PatternPlace, after_equals, and_attribute, attribute_places, after_pattern, entry_places}
use Rattle.lint_findings.specs.EntryFindings.{pattern_places}
use Rattle.lint_findings.specs.PlaceLaws.{tile_entries}
use Rattle.lint_findings.specs.FindingLaws.{source_selects}
use Rattle.lint_findings.proofs.OccurrencesAreRead.{pattern_fair}
use Rattle.lint_findings.proofs.RepeatedKeys.{AreAmong}
use Rattle.lint_findings.proofs.TilesAreTheList.{tiles_are_the_list}

-- ---- offsets

-- from its offset on, a source is the end that begins there
pub at_offset : (source at : Text) → EndsIn at source → drop (length source - length at) source ≡ at
at_offset source at h =
    let count : length source - length at ≡ length h.front = omega (arith, ap length h.whole, length-append h.front at) in
    ap (λ (n : ℕ). drop n source) count ∙ ap (drop (length h.front)) h.whole ∙ drop-append_seam h.front at

-- ---- patterns

module _ (whole : Text) where
  abbrev pub IsPlace : PatternPlace → Type 0
  IsPlace p = EndsIn p.pattern_at whole

  after_name : (name : Text) → EndsIn name whole → EndsIn (after_equals name) whole
  after_name name h = end-drop 1 (end-spaces (end-drop (name_len name) h))

  attribute_step : (left : Text → List PatternPlace) → ((s : Text) → EndsIn s whole → All IsPlace (left s)) → (s : Text) (b : Bool) (r : Reading t.Attribute) → EndsIn s whole → Fair r whole →
      All IsPlace (if b then and_attribute left s r else [])
  attribute_step left go s false r h fair = All-nil IsPlace
  attribute_step left go s true (refused fault) h fair = All-nil IsPlace
  attribute_step left go s true (got a rest) h fair = All-cons IsPlace _ (left rest) (after_name (drop 1 (skip_spaces s)) (end-drop 1 (end-spaces h))) (go rest fair.parts)

  attributes_within : (n : ℕ) (s : Text) → EndsIn s whole → All IsPlace (attribute_places n s)
  unfolding attribute_places
  attributes_within zero s h = All-nil IsPlace
  attributes_within (suc n) s h = attribute_step (attribute_places n) (attributes_within n) s (begins_with dot (skip_spaces s)) (attribute_at s) h (attribute-fair h)

  after_value : (s : Text) (r : Reading Elements) → Fair r whole → EndsIn (after_pattern s r) whole
  after_value s (got es rest) fair = end-blank_block fair.parts
  after_value s (refused fault) fair = end-none whole

  module _ (s : Text) (h : EndsIn s whole) where
    abbrev at_pattern : Text
    at_pattern = after_equals (if begins_with hyphen s then drop 1 s else s)

    value_within : EndsIn at_pattern whole
    value_within = after_name (if begins_with hyphen s then drop 1 s else s) (end-if (begins_with hyphen s) (end-drop 1 h) h)

    others_within : All IsPlace (drop 1 (entry_places s))
    others_within =
        let rest = after_pattern at_pattern (pattern_read at_pattern) in
        attributes_within (length rest) rest (after_value at_pattern (pattern_read at_pattern) (pattern_fair at_pattern value_within))

    all_within : All IsPlace (entry_places s)
    all_within = All-cons IsPlace _ (drop 1 (entry_places s)) value_within others_within

    by_value : (b : Bool) → All IsPlace (if b then entry_places s else drop 1 (entry_places s))
    by_value true = all_within
    by_value false = others_within

    pub places_within : (e : t.Entry) → All IsPlace (pattern_places e s)
    places_within (t.message m) = by_value (is_some m.value)
    places_within (t.term m) = all_within
    places_within (t.comment c) = All-nil IsPlace
    places_within (t.group_comment c) = All-nil IsPlace
    places_within (t.resource_comment c) = All-nil IsPlace
    places_within (t.junk x) = All-nil IsPlace

-- ---- tiles

-- an entry is read at an end of the source
abbrev pub IsReadTile : Text → Tile → Type 0
IsReadTile source (junk_tile at s refusal) = Unit {0}
IsReadTile source (entry_tile at s e) = EndsIn s source × ((rest : Text) × (entry_at s ≡ got e rest))

module _ (source : Text) where
  module _ (left : ℕ → Text → List Tile) (go : (at : ℕ) (s : Text) → EndsIn s source → All (IsReadTile source) (left at s)) where
    tile_read : (at : ℕ) (s : Text) (r : Reading t.Entry) → entry_at s ≡ r → EndsIn s source → Fair r source → All (IsReadTile source) (and_tiles left at s r)
    tile_read at s (got e rest) is h fair = All-cons (IsReadTile source) (entry_tile at s e) _ (h, (rest, is)) (go _ rest fair.parts)
    tile_read at s (refused refusal) is h fair = All-cons (IsReadTile source) (junk_tile at s refusal) _ tt (go _ (behind_junk s refusal.at) (resume-end (at_column_zero s refusal.at) refusal.at fair.parts.0))

  branch : (b : Bool) (ts : List Tile) → All (IsReadTile source) ts → All (IsReadTile source) (if b then [] else ts)
  branch true ts h = All-nil (IsReadTile source)
  branch false ts h = h

  read_from : (n at : ℕ) (s : Text) → EndsIn s source → All (IsReadTile source) (tiles_from n at s)
  unfolding tiles_from
  read_from zero at s h = All-nil (IsReadTile source)
  read_from (suc n) at s h =
      let u = skip_blank_block s in
      let k : EndsIn u source = end-blank_block h in
      branch (length u == 0) _ (tile_read (tiles_from n) (read_from n) (at + (length s - length u)) u (entry_at u) refl k (entry-fair k))

  pub tiles_are_read : All (IsReadTile source) (tiles source)
  tiles_are_read = read_from (suc (length source)) 0 source (end-same source)

-- ---- selects

abbrev pub entry_selects : t.Entry → List Variants
entry_selects e = flat_map (λ (p : Owner × Elements). elements_selects p.1) (entry_patterns e)

abbrev entries_selects : List t.Entry → List Variants
entries_selects es = flat_map (λ (p : Owner × Elements). elements_selects p.1) (flat_map entry_patterns es)

abbrev pub IsTileAmong : List Variants → Tile → Type 0
IsTileAmong vss (junk_tile at s refusal) = Unit {0}
IsTileAmong vss (entry_tile at s e) = AreAmong (entry_selects e) vss

among_more : (us vss : List Variants) → AreAmong us vss → (tile : Tile) → IsTileAmong us tile → IsTileAmong vss tile
among_more us vss h (junk_tile at s refusal) k = tt
among_more us vss h (entry_tile at s e) k = λ vs c. h vs (k vs c)

more_entries : (e : t.Entry) (es : List t.Entry) → entries_selects (e ∷ es) ≡ entry_selects e ++ entries_selects es
more_entries e es = flat_map-append (λ (p : Owner × Elements). elements_selects p.1) (entry_patterns e) (flat_map entry_patterns es)

own_among : (ts : List Tile) → All (IsTileAmong (entries_selects (tile_entries ts))) ts
own_among [] = All-nil (IsTileAmong (entries_selects []))
own_among (junk_tile at s refusal ∷ ts) = All-cons (IsTileAmong (entries_selects (tile_entries ts))) (junk_tile at s refusal) ts tt (own_among ts)
own_among (entry_tile at s e ∷ ts) =
    let own = entry_selects e in
    let others = entries_selects (tile_entries ts) in
    subst (λ vss. All (IsTileAmong vss) (entry_tile at s e ∷ ts)) (sym (more_entries e (tile_entries ts)))
    (All-cons (IsTileAmong (own ++ others)) (entry_tile at s e) ts (λ vs c. Contains-append_left own others vs c)
    (All-weaker (IsTileAmong others) (IsTileAmong (own ++ others)) (among_more others (own ++ others) (λ vs c. Contains-append_right own others vs c)) ts (own_among ts)))

-- comments and junk have no patterns
listed_patterns : (es : List t.Entry) → flat_map entry_patterns (listed es) ≡ flat_map entry_patterns es
listed_patterns [] = refl
listed_patterns (t.message m ∷ es) = ap (λ ps. entry_patterns (t.message m) ++ ps) (listed_patterns es)
listed_patterns (t.term m ∷ es) = ap (λ ps. entry_patterns (t.term m) ++ ps) (listed_patterns es)
listed_patterns (t.comment c ∷ es) = listed_patterns es
listed_patterns (t.group_comment c ∷ es) = listed_patterns es
listed_patterns (t.resource_comment c ∷ es) = listed_patterns es
listed_patterns (t.junk x ∷ es) = listed_patterns es

selects_same : (source : Text) → entries_selects (tile_entries (tiles source)) ≡ source_selects source
selects_same source =
    ap (flat_map (λ (p : Owner × Elements). elements_selects p.1)) (sym (listed_patterns (tile_entries (tiles source))) ∙ ap (flat_map entry_patterns) (tiles_are_the_list source))

pub tiles_are_among : (source : Text) → All (IsTileAmong (source_selects source)) (tiles source)
tiles_are_among source = subst (λ vss. All (IsTileAmong vss) (tiles source)) (selects_same source) (own_among (tiles source))
