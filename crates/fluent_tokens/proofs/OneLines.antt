-- A pattern of one line, told by rows.
use Rattle.std.proofs.Common.{◌≡◌, ℕ, zero, suc, ◌+◌, ◌-◌, ◌<◌, Bool, true, false, not, ◌&&◌, ◌||◌, List, [], ◌∷◌, map, take, drop, refl, sym, ap, ◌∙◌, arith, subst}
use Rattle.std.specs.Prelude.{◌==◌, Some, Ok}
use Rattle.std.specs.Int.{from_bool}
use Rattle.fluent_grammar.specs.Words.{Text, space, line_feed, carriage_return, open_brace, begins, begins_with}
use Rattle.fluent_grammar.specs.Lines.{ends_line, pattern_ends}
use Rattle.fluent_tokens.specs.Counted.{IsText, starts_text}
use Rattle.fluent_tokens.proofs.Scanned.{test_of, test_ne}
use Rattle.fluent_tokens.specs.declared.row.Row.{Row}
use Rattle.fluent_tokens.specs.Table.{Line, line_at, later_lines, row_view}
use Rattle.fluent_tokens.specs.Lookup.{with_line_feed, feeds_last, is_last_feed, IsOneLine, is_last_line}
use Rattle.fluent_tokens.proofs.LineEnds.{line_len, at_feed, at_crlf, at_other}
use Rattle.fluent_tokens.proofs.OneByOne.{both}
use Rattle.fluent_tokens.proofs.Places.{head_of, tail_of}

-- ---- the lines after a line of this many bytes that ends in a line feed alone
record Fed (s : Text) (l : Line) (ls : List Line) (n : ℕ) : Type 0 where
  feed : begins_with line_feed (drop n s) ≡ true
  are : l ∷ ls ≡ line_at l.start (drop (suc n) s) ∷ later_lines l.start (drop (suc n) s)

fed_now : (at c : ℕ) (cs : Text) (l : Line) (ls : List Line) → (c == line_feed) ≡ true → later_lines at (c ∷ cs) ≡ l ∷ ls → Fed (c ∷ cs) l ls 0
fed_now at c cs l ls e h =
    let n : later_lines at (c ∷ cs) ≡ line_at (suc at) cs ∷ later_lines (suc at) cs = rw e refl in
    let are : l ∷ ls ≡ line_at (suc at) cs ∷ later_lines (suc at) cs = sym h ∙ n in
    let start : l.start ≡ suc at = ap (λ (x : Line). x.start) (ap (head_of l) are) in
    record { feed = e; are = are ∙ ap (λ (k : ℕ). line_at k cs ∷ later_lines k cs) (sym start) }

not_crlf : (at c : ℕ) (cs : Text) (l : Line) (ls : List Line) → (c == line_feed) ≡ false → begins_with line_feed cs ≡ true → later_lines at (c ∷ cs) ≡ l ∷ ls → l.start ≡ suc (suc at)
not_crlf at c [] l ls e f h = absurd cc
not_crlf at c (d ∷ ds) l ls e f h =
    let n : later_lines at (c ∷ d ∷ ds) ≡ line_at (suc (suc at)) ds ∷ later_lines (suc (suc at)) ds = rw (e, f) refl in
    ap (λ (x : Line). x.start) (ap (head_of l) (sym h ∙ n))

fed_by : (b d : Bool) (at c : ℕ) (cs : Text) (l : Line) (ls : List Line) → (c == line_feed) ≡ b → (c == carriage_return && begins_with line_feed cs) ≡ d
    → (later_lines (suc at) cs ≡ l ∷ ls → l.start ≡ suc at + suc (line_len cs) → Fed cs l ls (line_len cs))
    → later_lines at (c ∷ cs) ≡ l ∷ ls → l.start ≡ at + suc (line_len (c ∷ cs)) → Fed (c ∷ cs) l ls (line_len (c ∷ cs))
fed_by true d at c cs l ls e f more h z = subst (Fed (c ∷ cs) l ls) (sym (at_feed c cs e)) (fed_now at c cs l ls e h)
fed_by false true at c cs l ls e f more h z =
    absurd (omega (arith, z, at_crlf c cs e f, not_crlf at c cs l ls e (both (c == carriage_return) (begins_with line_feed cs) f).1 h))
fed_by false false at c cs l ls e f more h z =
    let n : later_lines at (c ∷ cs) ≡ later_lines (suc at) cs = rw e refl in
    let m = at_other c cs e f in
    let x = more (sym n ∙ h) (omega (arith, z, m)) in
    subst (Fed (c ∷ cs) l ls) (sym m) (record { feed = x.feed; are = x.are })

fed : (at : ℕ) (s : Text) (l : Line) (ls : List Line) → later_lines at s ≡ l ∷ ls → l.start ≡ at + suc (line_len s) → Fed s l ls (line_len s)
fed at [] l ls h z = absurd cc
fed at (c ∷ cs) l ls h z = fed_by (c == line_feed) (c == carriage_return && begins_with line_feed cs) at c cs l ls refl refl (fed (suc at) cs l ls) h z

-- ---- the same by rows
next_fed : (at end : ℕ) (s : Text) (row : Row) (rows : List Row) → map row_view (row ∷ rows) ≡ later_lines at s → end ≡ at + line_len s → (row.start - end == 1) ≡ true
    → Fed s (row_view row) (map row_view rows) (line_len s)
next_fed at end s row rows h e z = fed at s (row_view row) (map row_view rows) (sym h) (omega (arith, e, test_of (row.start - end) 1 z))

ends_next : (s : Text) (row : Row) (rows : List Row) (n : ℕ) → Fed s (row_view row) (map row_view rows) n → row.ends_pattern ≡ pattern_ends (drop (suc n) s)
ends_next s row rows n f = ap (λ (l : Line). l.ends_pattern) (ap (head_of (row_view row)) f.are)

last_feed : (w : Text) (n : ℕ) → n ≡ 0 → begins_with line_feed (drop n w) ≡ true → pattern_ends (drop (suc n) w) ≡ true → is_last_feed w ≡ true
last_feed w n e f h =
    let a : begins_with line_feed w ≡ true = ap (λ (k : ℕ). begins_with line_feed (drop k w)) (sym e) ∙ f in
    let b : pattern_ends (drop 1 w) ≡ true = ap (λ (k : ℕ). pattern_ends (drop (suc k) w)) (sym e) ∙ h in
    ap (λ (x : Bool). x && pattern_ends (drop 1 w)) a ∙ b

one_more_feed : (s : Text) (n : ℕ) (next third : Row) (rows : List Row) → Fed s (row_view next) (map row_view (third ∷ rows)) n
    → (next.end == next.start && (third.start - next.end == 1 && third.ends_pattern)) ≡ true → is_last_feed (drop (suc n) s) ≡ true
one_more_feed s n next third rows f h =
    let w = drop (suc n) s in
    let a = both (next.end == next.start) (third.start - next.end == 1 && third.ends_pattern) h in
    let b = both (third.start - next.end == 1) third.ends_pattern a.1 in
    let end : next.end ≡ next.start + line_len w = ap (λ (l : Line). l.end) (ap (head_of (row_view next)) f.are) in
    let empty : line_len w ≡ 0 = omega (arith, end, test_of next.end next.start a.0) in
    let g = next_fed next.start next.end w third rows (ap tail_of f.are) end b.0 in
    last_feed w (line_len w) empty g.feed (sym (ends_next w third rows (line_len w) g) ∙ b.1)

or_case : (a b c d : Bool) → (a || b) ≡ true → a ≡ c → (b ≡ true → d ≡ true) → (c || d) ≡ true
or_case true b true d h e f = refl
or_case true b false d h e f = absurd cc
or_case false true true d h e f = refl
or_case false true false d h e f = f refl
or_case false false c d h e f = absurd cc

or_left : (a b : Bool) → a ≡ true → (a || b) ≡ true
or_left true b h = refl
or_left false b h = absurd cc

-- what is after the line
record Ended (s : Text) (n : ℕ) : Type 0 where
  feed : begins_with line_feed (drop n s) ≡ true
  pattern : (pattern_ends (drop (suc n) s) || is_last_feed (drop (suc n) s)) ≡ true

ended : (s : Text) (place : ℕ) (row : Row) (later : List Row) → row.end ≡ place + line_len s → map row_view later ≡ later_lines place s → is_last_line row later ≡ true → Ended s (line_len s)
ended s place row [] e h z = absurd cc
ended s place row (next ∷ []) e h z =
    let a = both (next.start - row.end == 1) next.ends_pattern z in
    let f = next_fed place row.end s next [] h e a.0 in
    record { feed = f.feed; pattern = or_left (pattern_ends (drop (suc (line_len s)) s)) _ (sym (ends_next s next [] (line_len s) f) ∙ a.1) }
ended s place row (next ∷ third ∷ rows) e h z =
    let behind = next.end == next.start && (third.start - next.end == 1 && third.ends_pattern) in
    let a = both (next.start - row.end == 1) (next.ends_pattern || behind) z in
    let f = next_fed place row.end s next (third ∷ rows) h e a.0 in
    record {
      feed = f.feed;
      pattern = or_case next.ends_pattern behind (pattern_ends (drop (suc (line_len s)) s)) (is_last_feed (drop (suc (line_len s)) s)) a.1 (ends_next s next (third ∷ rows) (line_len s) f) (one_more_feed s (line_len s) next third rows f);
    }

-- ---- the line
none_of_four : (a b d e : Bool) → not (a || (b || (d || e))) ≡ true → (b ≡ false) × (d ≡ false)
none_of_four false false false e h = (refl, refl)
none_of_four false false true e h = absurd cc
none_of_four false true d e h = absurd cc
none_of_four true b d e h = absurd cc

some_line : (s : Text) → begins starts_text s ≡ true → 0 < line_len s
some_line [] h = absurd cc
some_line (c ∷ cs) h =
    let n = none_of_four (c == space) (c == line_feed) (c == carriage_return) (c == open_brace) h in
    let m : (c == carriage_return && begins_with line_feed cs) ≡ false = ap (λ (b : Bool). b && begins_with line_feed cs) n.1 in
    omega (arith, at_other c cs n.0 m)

pub ends_at_feed : (s : Text) (n : ℕ) → begins_with line_feed (drop n s) ≡ true → ends_line (take (suc n) s) ≡ true
ends_at_feed [] zero h = absurd cc
ends_at_feed [] (suc n) h = absurd cc
ends_at_feed (c ∷ cs) zero h = h
ends_at_feed (c ∷ []) (suc zero) h = absurd cc
ends_at_feed (c ∷ []) (suc (suc n)) h = absurd cc
ends_at_feed (c ∷ d ∷ ds) (suc n) h = ends_at_feed (d ∷ ds) n h

pub one_line : (s : Text) (place count : ℕ) (row : Row) (later : List Row) → row.end - place ≡ line_len s → map row_view later ≡ later_lines place s → begins starts_text s ≡ true
    → is_last_line row later ≡ true → count ≡ with_line_feed (line_len s) s → IsText s (Ok count) → IsOneLine s (Some count)
one_line s place count row later e h b z c t =
    let f = ended s place row later (omega (arith, e, some_line s b)) h z in
    let n : count ≡ suc (line_len s) = c ∙ ap (λ (x : Bool). line_len s + from_bool x) f.feed ∙ omega arith in (
      b,
      t,
      ap (λ (k : ℕ). ends_line (take k s)) n ∙ ends_at_feed s (line_len s) f.feed,
      ap (λ (k : ℕ). pattern_ends (drop k s) || is_last_feed (drop k s)) n ∙ f.pattern,
    )

-- ---- a line feed after which a pattern ends, by rows
first_view : (at : ℕ) (s : Text) (next : Row) (rows : List Row) (l : Line) (ls : List Line) → map row_view (next ∷ rows) ≡ l ∷ ls → row_view next ≡ l
first_view at s next rows l ls h = ap (head_of l) h

feed_by : (b d : Bool) (place c : ℕ) (cs : Text) (row next : Row) (rows : List Row) → (c == line_feed) ≡ b → (c == carriage_return && begins_with line_feed cs) ≡ d
    → row.end - place ≡ line_len (c ∷ cs) → map row_view (next ∷ rows) ≡ later_lines place (c ∷ cs)
    → (row.end - place == 0 && (next.start - place == 1 && next.ends_pattern)) ≡ (c == line_feed && pattern_ends cs)
feed_by true d place c cs row next rows e f n h =
    let more : later_lines place (c ∷ cs) ≡ line_at (suc place) cs ∷ later_lines (suc place) cs = rw e refl in
    let view : row_view next ≡ line_at (suc place) cs = first_view place cs next rows _ _ (h ∙ more) in
    let ends : row.end - place ≡ 0 = n ∙ at_feed c cs e in
    let one : next.start - place ≡ 1 = let k : next.start ≡ suc place = ap (λ (l : Line). l.start) view in omega (arith, k) in
    let pattern : next.ends_pattern ≡ pattern_ends cs = ap (λ (l : Line). l.ends_pattern) view in
    rw (ends, one, pattern, e) refl
feed_by false true place c cs row next rows e f n h =
    let k : next.start ≡ suc (suc place) = not_crlf place c cs (row_view next) (map row_view rows) e (both (c == carriage_return) (begins_with line_feed cs) f).1 (sym h) in
    let two : next.start - place ≡ 2 = omega (arith, k) in
    let ends : row.end - place ≡ 0 = n ∙ at_crlf c cs e f in
    rw (ends, two, e) refl
feed_by false false place c cs row next rows e f n h =
    let some : (row.end - place == 0) ≡ false = test_ne (row.end - place) 0 (λ z. absurd (omega (arith, z, n, at_other c cs e f))) in
    rw (some, e) refl

pub feed_told : (s : Text) (place : ℕ) (row : Row) (later : List Row) → row.end - place ≡ line_len s → map row_view later ≡ later_lines place s → feeds_last row later place ≡ is_last_feed s
feed_told [] place row [] n h = refl
feed_told [] place row (next ∷ rows) n h = absurd cc
feed_told (c ∷ cs) place row [] n h = none (c == line_feed) refl
  where
    none : (b : Bool) → (c == line_feed) ≡ b → false ≡ (c == line_feed && pattern_ends cs)
    none true e = let more : later_lines place (c ∷ cs) ≡ line_at (suc place) cs ∷ later_lines (suc place) cs = rw e refl in let k : [] ≡ line_at (suc place) cs ∷ later_lines (suc place) cs = h ∙ more in absurd cc
    none false e = rw e refl
feed_told (c ∷ cs) place row (next ∷ rows) n h = feed_by (c == line_feed) (c == carriage_return && begins_with line_feed cs) place c cs row next rows refl refl n h

-- one test for three
pub all_three : (a b c : Bool) → ((a && b) && c) ≡ true → (a ≡ true) × (b ≡ true) × (c ≡ true)
all_three true true true h = (refl, refl, refl)
all_three true true false h = absurd cc
all_three true false c h = absurd cc
all_three false b c h = absurd cc
