-- The next message or term, or the next junk.
use Rattle.std.proofs.Common.{◌≡◌, ◌∙◌, ℕ, zero, suc, ◌+◌, ◌-◌, ◌<◌, Bool, true, false, if◌then◌else◌, List, [], ◌∷◌, length, drop, map, Option, Some, None, refl, sym, ap, subst, inl, inr, arith}
use Rattle.std.specs.Prelude.{◌==◌}
use Rattle.std.proofs.lemmas.List.{length-append, length-drop, drop-drop}
use Rattle.std.proofs.Math.Seq.{drop-append_seam}
use Rattle.fluent_grammar.specs.Words.{Text, skip_blank_block}
use Rattle.fluent_grammar.specs.Refusal.{Refusal, Reading, got, refused}
use Rattle.fluent_grammar.specs.Tree as t
use Rattle.fluent_grammar.specs.Ends.{EndsIn}
use Rattle.fluent_grammar.specs.Reading.{entry_at}
use Rattle.fluent_grammar.specs.Tiling.{ParserError, behind_junk, error_of, is_field_kind}
use Rattle.fluent_grammar.proofs.Within.{end-same, end-blank_block, entry-fair}
use Rattle.fluent_grammar.proofs.TilesJunk.{resume-end, place-end, entry_is_shorter}
use Rattle.lint_findings.specs.Tiles.{Tile, entry_tile, junk_tile, and_tiles, tiles_from}
use Rattle.lint_entries.specs.Starts.{next_start}
use Rattle.lint_entries.specs.Kept.{kept_tiles, entry_of_tile}
use Rattle.lint_entries.specs.Ahead.{AreAhead}
use Rattle.lint_entries.proofs.Starts.{is_comment, blank_block-start}
use Rattle.lint_entries.proofs.ReadPlain.{is_kept, entry_cases}
use Rattle.lint_entries.proofs.KeptTree.{no_junk}

-- an end of what is left at an offset is what is left at a later one
pub later : (source s u : Text) (at : ℕ) → s ≡ drop at source → EndsIn u s → u ≡ drop (at + (length s - length u)) source
later source s u at e h =
    let n = length h.front in
    let count : length s - length u ≡ n = omega (arith, ap length h.whole, length-append h.front u) in
    let cut : drop n s ≡ u = ap (drop n) h.whole ∙ drop-append_seam h.front u in
    sym cut ∙ ap (drop n) e ∙ drop-drop n at source ∙ ap (λ (k : ℕ). drop k source) (omega (arith, count))

after_entry : (source s : Text) (at : ℕ) (e : t.Entry) (rest : Text) → s ≡ drop at source → entry_at s ≡ got e rest → rest ≡ drop (at + (length s - length rest)) source
after_entry source s at e rest there h = later source s rest at there (rw h at (entry-fair (end-same s))).parts

-- ---- a message or a term

pub record FoundEntry (source s : Text) (e : t.Entry) (es : List (Option t.Entry)) (ahead : List Tile) : Type 0 where
  pub at : ℕ
  pub offset : at ≡ length source - length (next_start true s)
  pub rest : Text
  pub read : entry_at (next_start true s) ≡ got e rest
  pub left : List Tile
  pub is : ahead ≡ entry_tile at (next_start true s) e ∷ left
  pub after : AreAhead source rest left
  pub others : map entry_of_tile left ≡ es

same_start : {source s u : Text} {e : t.Entry} {es : List (Option t.Entry)} {ahead : List Tile} → next_start true s ≡ next_start true u → FoundEntry source u e es ahead → FoundEntry source s e es ahead
same_start {source} {s} {u} {e} {es} {ahead} same f = record {
  at = f.at;
  offset = f.offset ∙ ap (λ x. length source - length x) (sym same);
  rest = f.rest;
  read = ap entry_at same ∙ f.read;
  left = f.left;
  is = f.is ∙ ap (λ x. entry_tile f.at x e ∷ f.left) (sym same);
  after = f.after;
  others = f.others;
}

pub offset_is : (source u : Text) (at : ℕ) → u ≡ drop at source → 0 < length u → at ≡ length source - length u
offset_is source u at there some = omega (arith, ap length there, length-drop at source)

here : (source u : Text) (at n : ℕ) (e : t.Entry) (rest : Text) (es : List (Option t.Entry)) → u ≡ drop at source → entry_at u ≡ got e rest → next_start true u ≡ u →
    map entry_of_tile (kept_tiles (tiles_from n (at + (length u - length rest)) rest)) ≡ es →
    FoundEntry source u e es (entry_tile at u e ∷ kept_tiles (tiles_from n (at + (length u - length rest)) rest))
here source u at n e rest es there read start others = record {
  at = at;
  offset = offset_is source u at there (omega (arith, entry_is_shorter u e rest read)) ∙ ap (λ x. length source - length x) (sym start);
  rest = rest;
  read = ap entry_at start ∙ read;
  left = kept_tiles (tiles_from n (at + (length u - length rest)) rest);
  is = ap (λ x. entry_tile at x e ∷ kept_tiles (tiles_from n (at + (length u - length rest)) rest)) (sym start);
  after = record { steps = n; at = at + (length u - length rest); there = after_entry source u at e rest there read; tiles = refl };
  others = others;
}

kept_start : (s : Text) (e : t.Entry) (rest : Text) → is_comment e ≡ false → entry_at s ≡ got e rest → next_start true s ≡ s
kept_start s e rest no_comment read = elim (entry_cases s e rest read) [
  | inl passed ↦ absurd (let both : true ≡ false = sym passed.comment ∙ no_comment in cc)
  | inr here ↦ here.start
]

passed_start : (s : Text) (e : t.Entry) (rest : Text) → is_kept e ≡ false → entry_at s ≡ got e rest → next_start true s ≡ next_start true rest
passed_start s e rest not_kept read = elim (entry_cases s e rest read) [
  | inl passed ↦ passed.start
  | inr here ↦ absurd (let both : true ≡ false = sym here.kept ∙ not_kept in cc)
]

module _ (source : Text) (e : t.Entry) (es : List (Option t.Entry)) (n : ℕ)
    (again : (at : ℕ) (s : Text) → s ≡ drop at source → map entry_of_tile (kept_tiles (tiles_from n at s)) ≡ Some e ∷ es → FoundEntry source s e es (kept_tiles (tiles_from n at s))) where
  read_entry : (at : ℕ) (u : Text) (x : Reading t.Entry) → u ≡ drop at source → entry_at u ≡ x →
      map entry_of_tile (kept_tiles (and_tiles (tiles_from n) at u x)) ≡ Some e ∷ es → FoundEntry source u e es (kept_tiles (and_tiles (tiles_from n) at u x))
  read_entry at u (refused refusal) there h found = absurd cc
  read_entry at u (got (t.message m) rest) there h found =
      let is : t.message m ≡ e = cc in
      let others : map entry_of_tile (kept_tiles (tiles_from n (at + (length u - length rest)) rest)) ≡ es = cc in
      subst (λ x. FoundEntry source u x es (entry_tile at u (t.message m) ∷ kept_tiles (tiles_from n (at + (length u - length rest)) rest))) is
      (here source u at n (t.message m) rest es there h (kept_start u (t.message m) rest refl h) others)
  read_entry at u (got (t.term m) rest) there h found =
      let is : t.term m ≡ e = cc in
      let others : map entry_of_tile (kept_tiles (tiles_from n (at + (length u - length rest)) rest)) ≡ es = cc in
      subst (λ x. FoundEntry source u x es (entry_tile at u (t.term m) ∷ kept_tiles (tiles_from n (at + (length u - length rest)) rest))) is
      (here source u at n (t.term m) rest es there h (kept_start u (t.term m) rest refl h) others)
  read_entry at u (got (t.comment c) rest) there h found =
      same_start (passed_start u (t.comment c) rest refl h) (again _ rest (after_entry source u at (t.comment c) rest there h) found)
  read_entry at u (got (t.group_comment c) rest) there h found =
      same_start (passed_start u (t.group_comment c) rest refl h) (again _ rest (after_entry source u at (t.group_comment c) rest there h) found)
  read_entry at u (got (t.resource_comment c) rest) there h found =
      same_start (passed_start u (t.resource_comment c) rest refl h) (again _ rest (after_entry source u at (t.resource_comment c) rest there h) found)
  read_entry at u (got (t.junk x) rest) there h found = no_junk u rest x h

  branch_entry : (b : Bool) (u : Text) (ts : List Tile) → (map entry_of_tile (kept_tiles ts) ≡ Some e ∷ es → FoundEntry source u e es (kept_tiles ts)) →
      map entry_of_tile (kept_tiles (if b then [] else ts)) ≡ Some e ∷ es → FoundEntry source u e es (kept_tiles (if b then [] else ts))
  branch_entry true u ts f found = absurd cc
  branch_entry false u ts f found = f found

-- the next one is after blank lines and comments
pub find_entry : (source : Text) (e : t.Entry) (es : List (Option t.Entry)) (n at : ℕ) (s : Text) → s ≡ drop at source →
    map entry_of_tile (kept_tiles (tiles_from n at s)) ≡ Some e ∷ es → FoundEntry source s e es (kept_tiles (tiles_from n at s))
unfolding tiles_from
find_entry source e es zero at s there found = absurd cc
find_entry source e es (suc n) at s there found =
    let u = skip_blank_block s in
    same_start (blank_block-start s) (branch_entry source e es n (find_entry source e es n) (length u == 0) u _
    (read_entry source e es n (find_entry source e es n) (at + (length s - length u)) u (entry_at u) (later source s u at there (end-blank_block (end-same s))) refl) found)

-- ---- junk

pub record FoundJunk (source : Text) (es : List (Option t.Entry)) (ahead : List Tile) : Type 0 where
  pub at : ℕ
  pub text : Text
  pub refusal : Refusal
  pub left : List Tile
  pub is : ahead ≡ junk_tile at text refusal ∷ left
  pub after : AreAhead source (drop (error_of at text refusal).slice_end source) left
  pub others : map entry_of_tile left ≡ es

end_of : (at : ℕ) (s : Text) (refusal : Refusal) → (error_of at s refusal).slice_end ≡ at + (length s - length (behind_junk s refusal.at))
end_of at s refusal = by_kind (is_field_kind refusal.kind) _ _ refl refl
  where
    by_kind : {n : ℕ} (b : Bool) (x y : ParserError) → x.slice_end ≡ n → y.slice_end ≡ n → (if b then x else y).slice_end ≡ n
    by_kind true x y p q = p
    by_kind false x y p q = q

after_junk : (source u : Text) (at n : ℕ) (refusal : Refusal) (es : List (Option t.Entry)) → u ≡ drop at source → entry_at u ≡ refused refusal →
    map entry_of_tile (kept_tiles (tiles_from n (at + (length u - length (behind_junk u refusal.at))) (behind_junk u refusal.at))) ≡ es →
    FoundJunk source es (junk_tile at u refusal ∷ kept_tiles (tiles_from n (at + (length u - length (behind_junk u refusal.at))) (behind_junk u refusal.at)))
after_junk source u at n refusal es there h others =
    let rest = behind_junk u refusal.at in
    let end = at + (length u - length rest) in
    let left : rest ≡ drop end source = later source u rest at there (resume-end _ _ (place-end u refusal h)) in
    let same : drop (error_of at u refusal).slice_end source ≡ rest = ap (λ (k : ℕ). drop k source) (end_of at u refusal) ∙ sym left in
    record {
      at = at;
      text = u;
      refusal = refusal;
      left = kept_tiles (tiles_from n end rest);
      is = refl;
      after = record {
        steps = n;
        at = end;
        there = same ∙ left;
        tiles = ap (λ x. kept_tiles (tiles_from n end x)) (sym same);
      };
      others = others;
    }

module _ (source : Text) (es : List (Option t.Entry)) (n : ℕ)
    (again : (at : ℕ) (s : Text) → s ≡ drop at source → map entry_of_tile (kept_tiles (tiles_from n at s)) ≡ None ∷ es → FoundJunk source es (kept_tiles (tiles_from n at s))) where
  read_junk : (at : ℕ) (u : Text) (x : Reading t.Entry) → u ≡ drop at source → entry_at u ≡ x →
      map entry_of_tile (kept_tiles (and_tiles (tiles_from n) at u x)) ≡ None ∷ es → FoundJunk source es (kept_tiles (and_tiles (tiles_from n) at u x))
  read_junk at u (refused refusal) there h found = after_junk source u at n refusal es there h cc
  read_junk at u (got (t.message m) rest) there h found = absurd cc
  read_junk at u (got (t.term m) rest) there h found = absurd cc
  read_junk at u (got (t.comment c) rest) there h found = again _ rest (after_entry source u at (t.comment c) rest there h) found
  read_junk at u (got (t.group_comment c) rest) there h found = again _ rest (after_entry source u at (t.group_comment c) rest there h) found
  read_junk at u (got (t.resource_comment c) rest) there h found = again _ rest (after_entry source u at (t.resource_comment c) rest there h) found
  read_junk at u (got (t.junk x) rest) there h found = no_junk u rest x h

  branch_junk : (b : Bool) (ts : List Tile) → (map entry_of_tile (kept_tiles ts) ≡ None ∷ es → FoundJunk source es (kept_tiles ts)) →
      map entry_of_tile (kept_tiles (if b then [] else ts)) ≡ None ∷ es → FoundJunk source es (kept_tiles (if b then [] else ts))
  branch_junk true ts f found = absurd cc
  branch_junk false ts f found = f found

pub find_junk : (source : Text) (es : List (Option t.Entry)) (n at : ℕ) (s : Text) → s ≡ drop at source →
    map entry_of_tile (kept_tiles (tiles_from n at s)) ≡ None ∷ es → FoundJunk source es (kept_tiles (tiles_from n at s))
unfolding tiles_from
find_junk source es zero at s there found = absurd cc
find_junk source es (suc n) at s there found =
    let u = skip_blank_block s in
    branch_junk source es n (find_junk source es n) (length u == 0) _
    (read_junk source es n (find_junk source es n) (at + (length s - length u)) u (entry_at u) (later source s u at there (end-blank_block (end-same s))) refl) found
