-- Lemmas on the lines of a stream.
use Rattle.std.proofs.Common.{◌≡◌, ℕ, zero, suc, ◌<◌, Bool, true, false, cond, not, List, [], ◌∷◌, ◌++◌, length, take, drop, get_or, refl, sym, ap, ◌∙◌, arith, append-nil, Some, None, drop-cons, get_or-take}
use Rattle.std.specs.Prelude.{◌==◌, ◌&&◌}
use Rattle.std.specs.List.{onto_first, list_all}
use Rattle.std.proofs.lemmas.Bool.{eqb-true}
use Rattle.memchr.specs.Find.{IsFirstByte, is_byte}
use Rattle.std.proofs.lemmas.List.{length-take, take-append-drop}
use Rattle.fluent_serve.specs.Text.{Text, line_feed}
use Rattle.fluent_serve.specs.Lines.{parts_of, all_but_last, last_part, whole_lines, unfinished, IsUnfinished}

abbrev is_end : ℕ → Bool
is_end b = b == line_feed

-- a text before the first part
abbrev pub before_first_part : Text → List Text → List Text
before_first_part p [] = p ∷ []
before_first_part p (x ∷ xs) = (p ++ x) ∷ xs

parts_nonempty : (s : Text) → (first : Text) × (rest : List Text) × (parts_of s ≡ first ∷ rest)
parts_nonempty [] = ([], [], refl)
parts_nonempty (b ∷ bs) = by_test (is_end b) (parts_nonempty bs)
  where
    by_parts : (ps : List Text) → (first : Text) × (rest : List Text) × (onto_first b ps ≡ first ∷ rest)
    by_parts [] = (b ∷ [], [], refl)
    by_parts (p ∷ ps) = (b ∷ p, ps, refl)

    by_test : (t : Bool) → (first : Text) × (rest : List Text) × (parts_of bs ≡ first ∷ rest) →
        (first : Text) × (rest : List Text) × (cond t ([] ∷ parts_of bs) (onto_first b (parts_of bs)) ≡ first ∷ rest)
    by_test true more = ([], parts_of bs, refl)
    by_test false more = by_parts (parts_of bs)

all_but_last-cons : (x : Text) (s : Text) → all_but_last (x ∷ parts_of s) ≡ x ∷ all_but_last (parts_of s)
all_but_last-cons x s = let p = parts_nonempty s in rw p.2 refl

last_part-cons : (x : Text) (s : Text) → last_part (x ∷ parts_of s) ≡ last_part (parts_of s)
last_part-cons x s = let p = parts_nonempty s in rw p.2 refl

-- a byte that ends no line goes before the first part
onto_before : (b : ℕ) (p : Text) (ps : List Text) → onto_first b (before_first_part p ps) ≡ before_first_part (b ∷ p) ps
onto_before b p [] = refl
onto_before b p (x ∷ xs) = refl

before_nothing : (ps : List Text) (first : Text) (rest : List Text) → ps ≡ first ∷ rest → ps ≡ before_first_part [] ps
before_nothing ps first rest is = rw is refl

-- an unfinished line stands before the first part of what follows it
pub parts_behind_line : (p s : Text) → IsUnfinished p → parts_of (p ++ s) ≡ before_first_part p (parts_of s)
parts_behind_line [] s free = let q = parts_nonempty s in before_nothing (parts_of s) q.0 q.1 q.2
parts_behind_line (b ∷ bs) s free = by_test (is_end b) refl free (parts_behind_line bs s)
  where
    by_test : (t : Bool) → is_end b ≡ t → (not t && list_all (λ c. not (c == line_feed)) bs) ≡ true →
        (IsUnfinished bs → parts_of (bs ++ s) ≡ before_first_part bs (parts_of s)) →
        cond t ([] ∷ parts_of (bs ++ s)) (onto_first b (parts_of (bs ++ s))) ≡ before_first_part (b ∷ bs) (parts_of s)
    by_test true is free more = absurd cc
    by_test false is free more = ap (onto_first b) (more free) ∙ onto_before b bs (parts_of s)

pub unfinished_append : (p s : Text) → IsUnfinished p → IsUnfinished s → IsUnfinished (p ++ s)
unfinished_append [] s free more = more
unfinished_append (b ∷ bs) s free more = by_test (not (is_end b)) free (unfinished_append bs s)
  where
    by_test : (t : Bool) → (t && list_all (λ c. not (c == line_feed)) bs) ≡ true → (IsUnfinished bs → IsUnfinished s → IsUnfinished (bs ++ s)) →
        (t && list_all (λ c. not (c == line_feed)) (bs ++ s)) ≡ true
    by_test true free rest = rest free more
    by_test false free rest = absurd cc

-- no line feed stands in it
pub unfinished_at_no_end : (s : Text) → ((k : ℕ) → k < length s → is_end (get_or s k 0) ≡ true → ⊥) → IsUnfinished s
unfinished_at_no_end [] none = refl
unfinished_at_no_end (b ∷ bs) none = by_test (is_end b) refl (unfinished_at_no_end bs (λ k h. none (suc k) (omega arith)))
  where
    by_test : (t : Bool) → is_end b ≡ t → IsUnfinished bs → (not t && list_all (λ c. not (c == line_feed)) bs) ≡ true
    by_test true is more = absurd (none 0 (omega arith) is)
    by_test false is more = more

-- the parts of what is unfinished
parts_of_line : (p : Text) → IsUnfinished p → parts_of p ≡ p ∷ []
parts_of_line [] free = refl
parts_of_line (b ∷ bs) free = by_test (is_end b) free (parts_of_line bs)
  where
    by_test : (t : Bool) → (not t && list_all (λ c. not (c == line_feed)) bs) ≡ true → (IsUnfinished bs → parts_of bs ≡ bs ∷ []) →
        cond t ([] ∷ parts_of bs) (onto_first b (parts_of bs)) ≡ (b ∷ bs) ∷ []
    by_test true free more = absurd cc
    by_test false free more = ap (onto_first b) (more free)

pub whole_lines-unfinished : (p : Text) → IsUnfinished p → whole_lines p ≡ []
unfolding whole_lines
whole_lines-unfinished p free = ap all_but_last (parts_of_line p free)

pub unfinished-unfinished : (p : Text) → IsUnfinished p → unfinished p ≡ p
unfolding unfinished
unfinished-unfinished p free = ap last_part (parts_of_line p free)

-- the line that ends at a line feed, and then the others
module _ (line behind : Text) (free : IsUnfinished line) where
  parts_of_first : parts_of (line ++ line_feed ∷ behind) ≡ line ∷ parts_of behind
  parts_of_first = parts_behind_line line (line_feed ∷ behind) free ∙ ap (λ x. x ∷ parts_of behind) (append-nil line)

  pub whole_lines_first : whole_lines (line ++ line_feed ∷ behind) ≡ line ∷ whole_lines behind
  unfolding whole_lines
  whole_lines_first = ap all_but_last parts_of_first ∙ all_but_last-cons line behind

  pub unfinished_first : unfinished (line ++ line_feed ∷ behind) ≡ unfinished behind
  unfolding unfinished
  unfinished_first = ap last_part parts_of_first ∙ last_part-cons line behind

-- what a search for the first line feed says
pub no_line_feed : (s : Text) → IsFirstByte (is_byte line_feed) s None → IsUnfinished s
no_line_feed s none = unfinished_at_no_end s (λ k within is. none k (omega arith) within is)

drop_suc : (n : ℕ) (s : Text) → drop (suc n) s ≡ drop 1 (drop n s)
drop_suc zero s = refl
drop_suc (suc n) [] = refl
drop_suc (suc n) (b ∷ bs) = drop_suc n bs

pub at_line_feed : (s : Text) (end : ℕ) → IsFirstByte (is_byte line_feed) s (Some end) →
    IsUnfinished (take end s) × (s ≡ take end s ++ line_feed ∷ drop 1 (drop end s))
at_line_feed s end found =
    let within : end < length s = found.0.high in (
      unfinished_at_no_end (take end s) (λ k h is.
          let below : k < end = omega (arith, length-take end s) in
          let same : get_or (take end s) k 0 ≡ get_or s k 0 = get_or-take end s k 0 below in
          found.0.before k (omega arith) below (rw same at is)),
      sym (take-append-drop end s) ∙ ap (λ t. take end s ++ t)
          (drop-cons s end 0 within ∙ (ap (λ b. b ∷ drop (suc end) s) (eqb-true (get_or s end 0) line_feed found.1)
          ∙ ap (λ t. line_feed ∷ t) (drop_suc end s))),
    )

-- what is after the last line feed is unfinished
pub unfinished_open : (s : Text) → IsUnfinished (unfinished s)
unfolding unfinished
unfinished_open [] = refl
unfinished_open (b ∷ bs) = by_test (is_end b) refl (unfinished_open bs)
  where
    by_parts : (first : Text) (rest : List Text) → is_end b ≡ false → IsUnfinished (last_part (first ∷ rest)) → IsUnfinished (last_part (onto_first b (first ∷ rest)))
    by_parts first [] is more = rw is more
    by_parts first (x ∷ xs) is more = more

    by_test : (t : Bool) → is_end b ≡ t → IsUnfinished (last_part (parts_of bs)) → IsUnfinished (last_part (cond t ([] ∷ parts_of bs) (onto_first b (parts_of bs))))
    by_test true is more = rw (last_part-cons [] bs) more
    by_test false is more = let q = parts_nonempty bs in rw q.2 (by_parts q.0 q.1 is (rw q.2 at more))

-- the lines of what was read, and then those of what it left and of what follows
module _ (s : Text) where
  parts_append : (front : Text) → parts_of (front ++ s) ≡ all_but_last (parts_of front) ++ parts_of (last_part (parts_of front) ++ s)
  parts_append [] = refl
  parts_append (b ∷ bs) = by_test (is_end b) refl (parts_append bs)
    where
      onto : (ps qs : List Text) → onto_first b ((ps ++ qs)) ≡ onto_first b (ps ++ qs)
      onto ps qs = refl

      by_parts : (first : Text) (rest : List Text) → is_end b ≡ false →
          onto_first b (all_but_last (first ∷ rest) ++ parts_of (last_part (first ∷ rest) ++ s))
          ≡ all_but_last (onto_first b (first ∷ rest)) ++ parts_of (last_part (onto_first b (first ∷ rest)) ++ s)
      by_parts first [] is = rw is refl
      by_parts first (x ∷ xs) is = refl

      by_test : (t : Bool) → is_end b ≡ t → parts_of (bs ++ s) ≡ all_but_last (parts_of bs) ++ parts_of (last_part (parts_of bs) ++ s) →
          cond t ([] ∷ parts_of (bs ++ s)) (onto_first b (parts_of (bs ++ s)))
          ≡ all_but_last (cond t ([] ∷ parts_of bs) (onto_first b (parts_of bs))) ++ parts_of (last_part (cond t ([] ∷ parts_of bs) (onto_first b (parts_of bs))) ++ s)
      by_test true is more = rw (all_but_last-cons [] bs, last_part-cons [] bs) (ap (λ ps. [] ∷ ps) more)
      by_test false is more = let q = parts_nonempty bs in ap (onto_first b) more ∙ rw q.2 (by_parts q.0 q.1 is)

  all_but_last-append : (ps : List Text) (t : Text) → all_but_last (ps ++ parts_of t) ≡ ps ++ all_but_last (parts_of t)
  all_but_last-append [] t = refl
  all_but_last-append (p ∷ []) t = all_but_last-cons p t
  all_but_last-append (p ∷ q ∷ ps) t = ap (λ xs. p ∷ xs) (all_but_last-append (q ∷ ps) t)

  last_part-append : (ps : List Text) (t : Text) → last_part (ps ++ parts_of t) ≡ last_part (parts_of t)
  last_part-append [] t = refl
  last_part-append (p ∷ []) t = last_part-cons p t
  last_part-append (p ∷ q ∷ ps) t = last_part-append (q ∷ ps) t

  pub whole_lines-append : (front : Text) → whole_lines (front ++ s) ≡ whole_lines front ++ whole_lines (unfinished front ++ s)
  unfolding whole_lines unfinished
  whole_lines-append front = ap all_but_last (parts_append front) ∙ all_but_last-append (all_but_last (parts_of front)) (last_part (parts_of front) ++ s)

  pub unfinished-append : (front : Text) → unfinished (front ++ s) ≡ unfinished (unfinished front ++ s)
  unfolding unfinished
  unfinished-append front = ap last_part (parts_append front) ∙ last_part-append (all_but_last (parts_of front)) (last_part (parts_of front) ++ s)
