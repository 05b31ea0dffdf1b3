-- The lines of a text, one by one.
use Rattle.std.proofs.Common.{◌≡◌, ℕ, suc, ◌+◌, ◌-◌, ◌≤◌, Bool, true, false, ◌&&◌, List, [], ◌∷◌, ◌++◌, map, length, drop, refl, sym, ap, ◌∙◌, arith, append_assoc, Option, Some, None}
use Rattle.std.proofs.lemmas.List.{map-append, length-drop, drop-drop}
use Rattle.std.specs.Prelude.{◌==◌}
use Rattle.fluent_grammar.specs.Words.{Text, line_feed, carriage_return, begins_with, after_line_end, rest_of_line}
use Rattle.fluent_tokens.specs.Counted.{IsLine}
use Rattle.fluent_tokens.proofs.Measured.{line_length}
use Rattle.fluent_tokens.specs.declared.row.Row.{Row}
use Rattle.fluent_tokens.specs.Table.{Line, line_at, cut_line_at, later_lines, lines, row_view}

-- the lines after a line end, of a text that ends at this offset
pub behind : ℕ → Option Text → List Line
behind end None = []
behind end (Some v) = line_at (end - length v) v ∷ later_lines (end - length v) v

pub tail : Text → Option Text
tail s = after_line_end (drop (length (rest_of_line s).0) s)

pub both : (a b : Bool) → (a && b) ≡ true → (a ≡ true) × (b ≡ true)
both true true h = (refl, refl)
both true false h = absurd cc
both false b h = absurd cc

same_place : (end at : ℕ) (v : Text) → end - length v ≡ at → line_at at v ∷ later_lines at v ≡ behind end (Some v)
unfolding behind
same_place end at v e = ap (λ (k : ℕ). line_at k v ∷ later_lines k v) (sym e)

tail_feed : (c : ℕ) (cs : Text) → (c == line_feed) ≡ true → tail (c ∷ cs) ≡ Some cs
unfolding tail
tail_feed c cs e =
    let line : rest_of_line (c ∷ cs) ≡ ([], cs) = rw e refl in
    let end : after_line_end (c ∷ cs) ≡ Some cs = rw e refl in
    ap (λ (x : Text × Text). after_line_end (drop (length x.0) (c ∷ cs))) line ∙ end

step_feed : (at c : ℕ) (cs : Text) → (c == line_feed) ≡ true → later_lines at (c ∷ cs) ≡ behind (at + suc (length cs)) (tail (c ∷ cs))
step_feed at c cs e =
    let next : later_lines at (c ∷ cs) ≡ line_at (suc at) cs ∷ later_lines (suc at) cs = rw e refl in
    next ∙ same_place (at + suc (length cs)) (suc at) cs (omega arith) ∙ ap (behind (at + suc (length cs))) (sym (tail_feed c cs e))

tail_crlf : (c b : ℕ) (bs : Text) → (c == line_feed) ≡ false → (c == carriage_return) ≡ true → (b == line_feed) ≡ true → tail (c ∷ b ∷ bs) ≡ Some bs
unfolding tail
tail_crlf c b bs e f h =
    let line : rest_of_line (c ∷ b ∷ bs) ≡ ([], bs) = rw (e, f, h) refl in
    let end : after_line_end (c ∷ b ∷ bs) ≡ Some bs = rw (e, f, h) refl in
    ap (λ (x : Text × Text). after_line_end (drop (length x.0) (c ∷ b ∷ bs))) line ∙ end

step_crlf : (at c b : ℕ) (bs : Text) → (c == line_feed) ≡ false → (c == carriage_return) ≡ true → (b == line_feed) ≡ true
    → later_lines at (c ∷ b ∷ bs) ≡ behind (at + suc (suc (length bs))) (tail (c ∷ b ∷ bs))
step_crlf at c b bs e f h =
    let next : later_lines at (c ∷ b ∷ bs) ≡ line_at (suc (suc at)) bs ∷ later_lines (suc (suc at)) bs = rw (e, h) refl in
    next ∙ same_place (at + suc (suc (length bs))) (suc (suc at)) bs (omega arith) ∙ ap (behind (at + suc (suc (length bs)))) (sym (tail_crlf c b bs e f h))

-- after the first byte
step : (b d : Bool) (at c : ℕ) (cs : Text) → (c == line_feed) ≡ b → (c == carriage_return && begins_with line_feed cs) ≡ d
    → later_lines (suc at) cs ≡ behind (suc at + length cs) (tail cs) → later_lines at (c ∷ cs) ≡ behind (at + suc (length cs)) (tail (c ∷ cs))
unfolding tail
step true d at c cs e f h = step_feed at c cs e
step false true at c [] e f h = absurd (let k = (both (c == carriage_return) false f).1 in cc)
step false true at c (b ∷ bs) e f h =
    let k = both (c == carriage_return) (b == line_feed) f in
    step_crlf at c b bs e k.0 k.1
step false false at c cs e f h =
    let n : suc at + length cs ≡ at + suc (length cs) = omega arith in
    rw (e, f) (h ∙ ap (λ (k : ℕ). behind k (tail cs)) n)

-- a line after each line end
pub later_is : (at : ℕ) (s : Text) → later_lines at s ≡ behind (at + length s) (tail s)
unfolding behind tail
later_is at [] = refl
later_is at (c ∷ cs) = step (c == line_feed) (c == carriage_return && begins_with line_feed cs) at c cs refl refl (later_is (suc at) cs)

-- ---- a row after others

one_more : {A B : Type 0} (f : A → B) (old new : List A) (row : A) (whole rest : List B) → whole ≡ map f old ++ f row ∷ rest → new ≡ old ++ row ∷ [] → whole ≡ map f new ++ rest
one_more f old new row whole rest h e =
    h ∙ sym (append_assoc (map f old) (f row ∷ []) rest)
    ∙ ap (λ z. z ++ rest) (sym (map-append f old (row ∷ [])))
    ∙ ap (λ z. map f z ++ rest) (sym e)

nothing_more : {A : Type 0} (l : List A) → l ++ [] ≡ l
nothing_more [] = refl
nothing_more (x ∷ xs) = ap (λ ys. x ∷ ys) (nothing_more xs)

-- the first line, and those after it
split : (at len : ℕ) (s : Text) → IsLine s len → len ≤ length s → line_at at s ∷ later_lines at s ≡ cut_line_at at len s ∷ behind (at + length s) (after_line_end (drop len s))
unfolding tail
split at len s h n =
    let k = line_length s len h n in
    ap (λ (x : ℕ). cut_line_at at x s ∷ later_lines at s) k
    ∙ ap (λ l. cut_line_at at len s ∷ l) (later_is at s ∙ ap (λ (x : ℕ). behind (at + length s) (after_line_end (drop x s))) k)

-- the rows with that of a line
with_row : (all u : Text) (old new : List Row) (row : Row) (start len : ℕ) → lines all ≡ map row_view old ++ line_at start (drop start all) ∷ later_lines start (drop start all) → u ≡ drop start all
    → IsLine u len → len ≤ length u → new ≡ old ++ row ∷ [] → row_view row ≡ cut_line_at start len u
    → lines all ≡ map row_view new ++ behind (start + length u) (after_line_end (drop len u))
with_row all u old new row start len h e l n k r =
    one_more row_view old new row (lines all) (behind (start + length u) (after_line_end (drop len u)))
    (h ∙ ap (λ (z : Text). map row_view old ++ line_at start z ∷ later_lines start z) (sym e)
    ∙ ap (λ z. map row_view old ++ z) (split start len u l n)
    ∙ ap (λ z. map row_view old ++ z ∷ behind (start + length u) (after_line_end (drop len u))) (sym r)) k

-- the last row
pub last_row : (all u : Text) (old new : List Row) (row : Row) (start len : ℕ) → lines all ≡ map row_view old ++ line_at start (drop start all) ∷ later_lines start (drop start all) → u ≡ drop start all
    → IsLine u len → len ≤ length u → new ≡ old ++ row ∷ [] → row_view row ≡ cut_line_at start len u → after_line_end (drop len u) ≡ None → map row_view new ≡ lines all
unfolding behind
last_row all u old new row start len h e l n k r end =
    sym (with_row all u old new row start len h e l n k r ∙ ap (λ o. map row_view new ++ behind (start + length u) o) end ∙ nothing_more (map row_view new))

-- a row that others follow
pub next_row : (all u : Text) (old new : List Row) (row : Row) (start len end next : ℕ) → lines all ≡ map row_view old ++ line_at start (drop start all) ∷ later_lines start (drop start all) → u ≡ drop start all
    → IsLine u len → len ≤ length u → new ≡ old ++ row ∷ [] → row_view row ≡ cut_line_at start len u → after_line_end (drop len u) ≡ Some (drop end (drop len u)) → len + end ≤ length u → next ≡ start + (len + end)
    → lines all ≡ map row_view new ++ line_at next (drop next all) ∷ later_lines next (drop next all)
next_row all u old new row start len end next h e l n k r f m x =
    let v : drop end (drop len u) ≡ drop next all = drop-drop end len u ∙ ap (λ (z : Text). drop (len + end) z) e ∙ drop-drop (len + end) start all ∙ ap (λ (i : ℕ). drop i all) (sym x) in
    let place : start + length u - length (drop end (drop len u)) ≡ next = omega (arith, x, m, length-drop end (drop len u), length-drop len u) in
    with_row all u old new row start len h e l n k r
    ∙ ap (λ o. map row_view new ++ behind (start + length u) o) f
    ∙ ap (λ z. map row_view new ++ z) (sym (same_place (start + length u) next (drop end (drop len u)) place))
    ∙ ap (λ (z : Text). map row_view new ++ line_at next z ∷ later_lines next z) v
