-- The row of the line that holds a place.
use Rattle.std.proofs.Common.{◌≡◌, ◌≢◌, ℕ, zero, suc, ◌+◌, ◌-◌, ◌<◌, ◌≤◌, Bool, true, false, ◌&&◌, ◌||◌, List, [], ◌∷◌, map, length, take, drop, get_or, refl, sym, ap, ◌∙◌, arith, subst, ◌⊎◌, inl, inr}
use Rattle.std.specs.Prelude.{◌==◌}
use Rattle.std.proofs.lemmas.Bool.{cases_eq}
use Rattle.std.proofs.lemmas.List.{length-map, length-drop, get_or-drop, drop-map, drop-drop, drop_more}
use Rattle.std.proofs.Math.ListN.{drop_of_length-le}
use Rattle.fluent_grammar.specs.Words.{Text, line_feed, carriage_return, begins_with, rest_of_line}
use Rattle.fluent_grammar.specs.Tiling.{at_column_zero}
use Rattle.fluent_tokens.specs.Counted.{is_no_brace, is_plain}
use Rattle.fluent_tokens.proofs.Scanned.{test_of, test_eq, test_ne}
use Rattle.fluent_tokens.specs.declared.row.Row.{Row}
use Rattle.fluent_tokens.specs.Table.{Line, line_at, later_lines, lines, row_view}
use Rattle.fluent_tokens.specs.Lookup.{Holds}
use Rattle.fluent_tokens.proofs.OneByOne.{both}

-- the first of some rows begins at or before a place, or after it
abbrev pub IsReached : ℕ → List Row → Type 0
IsReached place [] = Unit {0}
IsReached place (row ∷ rows) = row.start ≤ place

abbrev pub IsAhead : ℕ → List Row → Type 0
IsAhead place [] = Unit {0}
IsAhead place (row ∷ rows) = place < row.start

-- ---- a text with no line feed among its first bytes
abbrev pub NoFeed : Text → ℕ → Type 0
NoFeed s k = (j : ℕ) → j < k → get_or s j 0 ≢ 10

-- what is after a front is as plain as all of it
none_plain : (m : ℕ) → is_plain (take m []) ≡ true
none_plain zero = refl
none_plain (suc m) = refl

pub plain_past : (s : Text) (n k : ℕ) → is_plain (take n s) ≡ true → is_plain (take (n - k) (drop k s)) ≡ true
plain_past s n zero h = let e : n - 0 ≡ n = omega arith in ap (λ (m : ℕ). is_plain (take m s)) e ∙ h
plain_past [] n (suc k) h = none_plain (n - suc k)
plain_past (c ∷ cs) zero (suc k) h = let e : 0 - suc k ≡ 0 = omega arith in ap (λ (m : ℕ). is_plain (take m (drop k cs))) e
plain_past (c ∷ cs) (suc n) (suc k) h =
    let e : suc n - suc k ≡ n - k = omega arith in
    ap (λ (m : ℕ). is_plain (take m (drop k cs))) e ∙ plain_past cs n k (both (is_no_brace c) (is_plain (take n cs)) h).1

abbrev LineAhead : ℕ → List Line → Type 0
LineAhead place [] = Unit {0}
LineAhead place (l ∷ ls) = place < l.start

tail_clear : (c : ℕ) (cs : Text) (k : ℕ) → NoFeed (c ∷ cs) (suc k) → NoFeed cs k
tail_clear c cs k f = λ j h. f (suc j) (omega arith)

head_clear : (c : ℕ) (cs : Text) (k : ℕ) → NoFeed (c ∷ cs) (suc k) → (c == line_feed) ≡ false
head_clear c cs k f = test_ne c 10 (f 0 (omega arith))

not_feed : (c : ℕ) → (c == line_feed) ≡ false → c ≢ 10
not_feed c e = λ x. absurd (let t = test_eq c 10 x in cc)

later_none : (at c : ℕ) (cs : Text) → (c == line_feed) ≡ false → later_lines at (c ∷ cs) ≡ later_lines (suc at) cs
later_none at c cs e = rw e refl

later_feed : (at c : ℕ) (cs : Text) → (c == line_feed) ≡ true → later_lines at (c ∷ cs) ≡ line_at (suc at) cs ∷ later_lines (suc at) cs
later_feed at c cs e = rw e refl

pub one_clear : (c : ℕ) (cs : Text) (k : ℕ) → (c == line_feed) ≡ false → NoFeed cs k → NoFeed (c ∷ cs) (suc k)
one_clear c cs k e f zero h = not_feed c e
one_clear c cs k e f (suc j) h = f j (omega (arith, h))

clear_by : (b : Bool) (at c : ℕ) (cs : Text) (k : ℕ) → (c == line_feed) ≡ b → ((k : ℕ) → LineAhead (suc at + k) (later_lines (suc at) cs) → NoFeed cs k)
    → LineAhead (at + k) (later_lines at (c ∷ cs)) → NoFeed (c ∷ cs) k
clear_by b at c cs zero e more a = λ j h. absurd (omega (arith, h))
clear_by true at c cs (suc k) e more a =
    let less : at + suc k < suc at = subst (LineAhead (at + suc k)) (later_feed at c cs e) a in
    absurd (omega (arith, less))
clear_by false at c cs (suc k) e more a =
    let same : at + suc k ≡ suc at + k = omega arith in
    one_clear c cs k e (more k (subst (λ (n : ℕ). LineAhead n (later_lines (suc at) cs)) same (subst (LineAhead (at + suc k)) (later_none at c cs e) a)))

clear : (at : ℕ) (s : Text) (k : ℕ) → LineAhead (at + k) (later_lines at s) → NoFeed s k
clear at [] k a = λ j h e. absurd cc
clear at (c ∷ cs) k a = clear_by (c == line_feed) at c cs k refl (clear (suc at) cs) a

-- the lines after are the same
later_past : (at : ℕ) (s : Text) (k : ℕ) → k ≤ length s → NoFeed s k → later_lines at s ≡ later_lines (at + k) (drop k s)
later_past at s zero h f = ap (λ (n : ℕ). later_lines n s) (omega arith)
later_past at [] (suc k) h f = absurd (omega (arith, h))
later_past at (c ∷ cs) (suc k) h f =
    later_none at c cs (head_clear c cs k f) ∙ later_past (suc at) cs k (omega (arith, h)) (tail_clear c cs k f)
    ∙ ap (λ (n : ℕ). later_lines n (drop k cs)) (omega arith)

-- and the line's end is
no_more : (c : ℕ) (cs : Text) → (c == line_feed) ≡ true → length (rest_of_line (c ∷ cs)).0 ≡ 0
no_more c cs e = rw e refl

end_crlf : (cs : Text) (k : ℕ) → begins_with line_feed cs ≡ true → NoFeed cs k → 0 - suc k ≡ length (rest_of_line (drop k cs)).0
end_crlf [] k e f = absurd cc
end_crlf (d ∷ ds) zero e f = sym (no_more d ds e)
end_crlf (d ∷ ds) (suc k) e f = absurd (f 0 (omega arith) (test_of d 10 e))

end_by : (b : Bool) (c : ℕ) (cs : Text) (k : ℕ) → (c == carriage_return && begins_with line_feed cs) ≡ b → NoFeed (c ∷ cs) (suc k)
    → length (rest_of_line cs).0 - k ≡ length (rest_of_line (drop k cs)).0 → length (rest_of_line (c ∷ cs)).0 - suc k ≡ length (rest_of_line (drop k cs)).0
end_by true c cs k e f more =
    let n : length (rest_of_line (c ∷ cs)).0 ≡ 0 = rw (head_clear c cs k f, e) refl in
    ap (λ (m : ℕ). m - suc k) n ∙ end_crlf cs k (both (c == carriage_return) (begins_with line_feed cs) e).1 (tail_clear c cs k f)
end_by false c cs k e f more =
    let n : length (rest_of_line (c ∷ cs)).0 ≡ suc (length (rest_of_line cs).0) = rw (head_clear c cs k f, e) refl in
    let one : suc (length (rest_of_line cs).0) - suc k ≡ length (rest_of_line cs).0 - k = omega arith in
    ap (λ (m : ℕ). m - suc k) n ∙ one ∙ more

pub end_past : (s : Text) (k : ℕ) → k ≤ length s → NoFeed s k → length (rest_of_line s).0 - k ≡ length (rest_of_line (drop k s)).0
end_past s zero h f = omega arith
end_past [] (suc k) h f = absurd (omega (arith, h))
end_past (c ∷ cs) (suc k) h f =
    end_by (c == carriage_return && begins_with line_feed cs) c cs k refl f (end_past cs k (omega (arith, h)) (tail_clear c cs k f))

-- ---- the lines from one of them on
record From (at : ℕ) (s : Text) (ls : List Line) : Type 0 where
  skipped : ℕ
  within : skipped ≤ length s
  are : ls ≡ line_at (at + skipped) (drop skipped s) ∷ later_lines (at + skipped) (drop skipped s)

at_once : (at at2 : ℕ) (s : Text) → at2 ≡ at → line_at at2 s ∷ later_lines at2 s ≡ line_at at s ∷ later_lines at s
at_once at at2 s e = ap (λ (n : ℕ). line_at n s ∷ later_lines n s) e

one_back : (at c : ℕ) (cs : Text) (ls : List Line) → From (suc at) cs ls → From at (c ∷ cs) ls
one_back at c cs ls f = record {
  skipped = suc f.skipped;
  within = omega (arith, f.within);
  are = f.are ∙ at_once (at + suc f.skipped) (suc at + f.skipped) (drop f.skipped cs) (omega arith);
}

here : (at : ℕ) (s : Text) → From at s (line_at at s ∷ later_lines at s)
here at s = record { skipped = 0; within = omega arith; are = at_once (at + 0) at s (omega arith) }

later_at_by : (b : Bool) (at c : ℕ) (cs : Text) (i : ℕ) → (c == line_feed) ≡ b → ((i : ℕ) → i < length (later_lines (suc at) cs) → From (suc at) cs (drop i (later_lines (suc at) cs)))
    → i < length (later_lines at (c ∷ cs)) → From at (c ∷ cs) (drop i (later_lines at (c ∷ cs)))
later_at_by false at c cs i e more h =
    let n = later_none at c cs e in
    subst (λ (ls : List Line). From at (c ∷ cs) (drop i ls)) (sym n) (one_back at c cs _ (more i (omega (arith, h, ap length n))))
later_at_by true at c cs zero e more h =
    subst (λ (ls : List Line). From at (c ∷ cs) ls) (sym (later_feed at c cs e)) (one_back at c cs _ (here (suc at) cs))
later_at_by true at c cs (suc i) e more h =
    let n = later_feed at c cs e in
    subst (λ (ls : List Line). From at (c ∷ cs) (drop (suc i) ls)) (sym n) (one_back at c cs _ (more i (omega (arith, h, ap length n))))

later_at : (at : ℕ) (s : Text) (i : ℕ) → i < length (later_lines at s) → From at s (drop i (later_lines at s))
later_at at [] i h = absurd (omega (arith, h))
later_at at (c ∷ cs) i h = later_at_by (c == line_feed) at c cs i refl (later_at (suc at) cs) h

from_line : (text : Text) (i : ℕ) → i < length (lines text) → From 0 text (drop i (lines text))
from_line text zero h = here 0 text
from_line text (suc i) h = later_at 0 text i (omega (arith, h))

plain_from : (text : Text) (ls : List Line) (f : From 0 text ls) → ls ≡ line_at f.skipped (drop f.skipped text) ∷ later_lines f.skipped (drop f.skipped text)
plain_from text ls f = f.are ∙ at_once f.skipped (0 + f.skipped) (drop f.skipped text) (omega arith)

-- ---- a row that holds a place
-- the first of some lines, and those after it
abbrev pub head_of : Line → List Line → Line
head_of d [] = d
head_of d (l ∷ ls) = l

abbrev pub tail_of : List Line → List Line
tail_of [] = []
tail_of (l ∷ ls) = ls

either : (a b : Bool) → (a || b) ≡ true → (a ≡ true) ⊎ (b ≡ true)
either true b h = inl refl
either false b h = inr h

-- at column 0 the line begins
column_zero : (text : Text) (st place : ℕ) → st ≤ place → place ≤ length text → NoFeed (drop st text) (place - st) → at_column_zero text (drop place text) ≡ true → place ≡ st
column_zero text st place h n f e =
    let p : length text - length (drop place text) ≡ place = omega (arith, n, length-drop place text) in
    let q : (place == 0 || (get_or text (place - 1) 0 == line_feed)) ≡ true = subst (λ (m : ℕ). (m == 0 || (get_or text (m - 1) 0 == line_feed)) ≡ true) p e in
    elim (either (place == 0) (get_or text (place - 1) 0 == line_feed) q) [
      | inl z ↦ omega (arith, test_of place 0 z, h)
      | inr z ↦ elim (cases_eq place st) [
        | inl same ↦ same
        | inr other ↦
            let back : st + (place - st - 1) ≡ place - 1 = omega (arith, other, h) in
            absurd (f (place - st - 1) (omega (arith, other, h)) (get_or-drop st text (place - st - 1) 0 ∙ ap (λ (m : ℕ). get_or text m 0) back ∙ test_of (get_or text (place - 1) 0) 10 z))
      ]
    ]

ahead : (place : ℕ) (later : List Row) → IsAhead place later → LineAhead place (map row_view later)
ahead place [] a = tt
ahead place (r ∷ rs) a = a

-- What a row of the table and those after it say: a line begins here.
pub record Begins (text : Text) (row : Row) (later : List Row) : Type 0 where
  pub within : row.start ≤ length text
  pub line : row_view row ≡ line_at row.start (drop row.start text)
  pub behind : map row_view later ≡ later_lines row.start (drop row.start text)

begins_by : (text : Text) (row : Row) (later : List Row) → From 0 text (row_view row ∷ map row_view later) → Begins text row later
begins_by text row later f =
    let are = plain_from text (row_view row ∷ map row_view later) f in
    let line = ap (head_of (row_view row)) are in
    let start : row.start ≡ f.skipped = ap (λ (l : Line). l.start) line in
    record {
      within = omega (arith, start, f.within);
      line = line ∙ ap (λ (n : ℕ). line_at n (drop n text)) (sym start);
      behind = ap tail_of are ∙ ap (λ (n : ℕ). later_lines n (drop n text)) (sym start);
    }

pub begins : (text : Text) (rows : List Row) (i : ℕ) (row : Row) → map row_view rows ≡ lines text → i < length rows → drop i rows ≡ row ∷ drop (i + 1) rows → Begins text row (drop (i + 1) rows)
begins text rows i row e inside at =
    let all : drop i (lines text) ≡ row_view row ∷ map row_view (drop (i + 1) rows) = ap (drop i) (sym e) ∙ drop-map row_view i rows ∙ ap (map row_view) at in
    begins_by text row (drop (i + 1) rows) (subst (From 0 text) all (from_line text i (omega (arith, inside, ap length e, length-map rows row_view))))

holds_by : (text : Text) (row : Row) (later : List Row) (place : ℕ) → From 0 text (row_view row ∷ map row_view later) → place ≤ length text → row.start ≤ place → IsAhead place later → Holds text row later place
holds_by text row later place f n h a =
    let st = f.skipped in
    let u = drop st text in
    let are = plain_from text (row_view row ∷ map row_view later) f in
    let line : row_view row ≡ line_at st u = ap (head_of (row_view row)) are in
    let behind : map row_view later ≡ later_lines st u = ap tail_of are in
    let start : row.start ≡ st = ap (λ (l : Line). l.start) line in
    let k = place - st in
    let within : k ≤ length u = omega (arith, n, length-drop st text) in
    let at : st + k ≡ place = omega (arith, start, h) in
    let no_feed : NoFeed u k = clear st u k (subst (LineAhead (st + k)) behind (subst (λ (m : ℕ). LineAhead m (map row_view later)) (sym at) (ahead place later a))) in
    let there : drop k u ≡ drop place text = drop-drop k st text ∙ ap (λ (m : ℕ). drop m text) at in
    let e = ap (λ (l : Line). l.end) line in
    let long : row.end - place ≡ length (rest_of_line u).0 - k = omega (arith, e, start, h) in
    record {
      end = long ∙ end_past u k within no_feed ∙ ap (λ (s : Text). length (rest_of_line s).0) there;
      plain = λ z. ap (λ (m : ℕ). is_plain (take m (drop place text))) long ∙ ap (λ (s : Text). is_plain (take (length (rest_of_line u).0 - k) s)) (sym there)
          ∙ plain_past u (length (rest_of_line u).0) k (sym (ap (λ (l : Line). l.is_plain) line) ∙ z);
      first = λ z. line ∙ ap (λ (m : ℕ). line_at m (drop m text)) (sym (column_zero text st place (omega (arith, start, h)) n no_feed z));
      behind = behind ∙ later_past st u k within no_feed ∙ ap (λ (s : Text). later_lines (st + k) s) there ∙ ap (λ (m : ℕ). later_lines m (drop place text)) at;
    }

pub holds : (text : Text) (rows : List Row) (i : ℕ) (row : Row) (place : ℕ) → map row_view rows ≡ lines text → i < length rows → drop i rows ≡ row ∷ drop (i + 1) rows → place ≤ length text
    → IsReached place (drop i rows) → IsAhead place (drop (i + 1) rows) → Holds text row (drop (i + 1) rows) place
holds text rows i row place e inside at n h a =
    let all : drop i (lines text) ≡ row_view row ∷ map row_view (drop (i + 1) rows) = ap (drop i) (sym e) ∙ drop-map row_view i rows ∙ ap (map row_view) at in
    holds_by text row (drop (i + 1) rows) place (subst (From 0 text) all (from_line text i (omega (arith, inside, ap length e, length-map rows row_view)))) n (subst (IsReached place) at h) a

-- ---- the search
pub first_reached : (text : Text) (rows : List Row) (place : ℕ) → map row_view rows ≡ lines text → IsReached place rows
first_reached text [] place e = tt
first_reached text (r ∷ rs) place e = let start : r.start ≡ 0 = ap (λ (l : Line). l.start) (ap (head_of (row_view r)) e) in omega (arith, start)

pub ahead_at : (rows : List Row) (i : ℕ) (d : Row) (place : ℕ) → i < length rows → place < (get_or rows i d).start → IsAhead place (drop i rows)
ahead_at rows i d place h a = subst (IsAhead place) (sym (drop_more rows i d h)) a

pub ahead_none : (rows : List Row) (i place : ℕ) → length rows ≤ i → IsAhead place (drop i rows)
ahead_none rows i place h = subst (IsAhead place) (sym (drop_of_length-le rows h)) tt
