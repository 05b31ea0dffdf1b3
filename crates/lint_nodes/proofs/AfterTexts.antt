-- What stands before the next placeable or line.
use Rattle.std.proofs.Common.{◌≡◌, ◌∙◌, ℕ, zero, suc, ◌<◌, ◌≤◌, Bool, true, false, cond, ◌||◌, [], ◌∷◌, length, drop, get_or, Some, None, refl, arith}
use Rattle.std.specs.Prelude.{◌==◌}
use Rattle.memchr.specs.Find.{IsFirstByte, is_byte2}
use Rattle.fluent_grammar.specs.Words.{Text, begins_with}
use Rattle.fluent_grammar.specs.Lines.{pattern_ends}
use Rattle.lint_nodes.specs.Rests.{after_texts, after_lines}

-- a byte that is no brace and no line feed
skipped : (a b : Bool) (x y z : Text) → (a || b) ≡ false → cond a x (cond b y z) ≡ z
skipped true b x y z h = absurd cc
skipped false true x y z h = absurd cc
skipped false false x y z h = refl

not_true : (b : Bool) → (b ≡ true → ⊥) → b ≡ false
not_true true h = absurd (h refl)
not_true false h = refl

pub nothing_before : (s : Text) (n : ℕ) → n ≤ length s → ((k : ℕ) → k < n → is_byte2 123 10 (get_or s k 0) ≡ true → ⊥) → after_texts s ≡ after_texts (drop n s)
nothing_before s zero le none = refl
nothing_before [] (suc n) le none = refl
nothing_before (c ∷ cs) (suc n) le none =
    skipped (c == 123) (c == 10) _ _ _ (not_true (is_byte2 123 10 c) (none 0 (omega arith)))
    ∙ nothing_before cs n (omega (arith, le)) (λ k lt. none (suc k) (omega (arith, lt)))

pub stop_is_next : (s : Text) (n : ℕ) → IsFirstByte (is_byte2 123 10) s (Some n) → after_texts s ≡ after_texts (drop n s)
stop_is_next s n found = nothing_before s n (omega (arith, found.0.high)) (λ k lt. found.0.before k (omega arith) lt)

all_dropped : (s : Text) → after_texts (drop (length s) s) ≡ drop (length s) s
all_dropped [] = refl
all_dropped (c ∷ cs) = all_dropped cs

pub no_stop : (s : Text) → IsFirstByte (is_byte2 123 10) s None → after_texts s ≡ drop (length s) s
no_stop s none = nothing_before s (length s) (omega arith) (λ k lt. none k (omega arith) lt) ∙ all_dropped s

pub at_brace : (s : Text) → begins_with 123 s ≡ true → after_texts s ≡ s
at_brace [] h = refl
at_brace (c ∷ cs) h = rw h refl

-- from a line feed on
pub at_line_feed : (s : Text) → begins_with 123 s ≡ false → begins_with 10 s ≡ true → after_texts s ≡ after_lines (drop 1 s)
at_line_feed [] h k = absurd cc
at_line_feed (c ∷ cs) h k = rw (h, k) refl

other_stop : (a b : Bool) → (a || b) ≡ true → a ≡ false → b ≡ true
other_stop true b h k = absurd cc
other_stop false b h k = h

feed_there : (s : Text) (n : ℕ) → n < length s → is_byte2 123 10 (get_or s n 0) ≡ true → begins_with 123 (drop n s) ≡ false → begins_with 10 (drop n s) ≡ true
feed_there [] n lt h k = absurd (omega (arith, lt))
feed_there (c ∷ cs) zero lt h k = other_stop (c == 123) (c == 10) h k
feed_there (c ∷ cs) (suc n) lt h k = feed_there cs n (omega (arith, lt)) h k

pub next_line : (s : Text) (n : ℕ) → IsFirstByte (is_byte2 123 10) s (Some n) → begins_with 123 (drop n s) ≡ false → after_texts s ≡ after_lines (drop 1 (drop n s))
next_line s n found apart = stop_is_next s n found ∙ at_line_feed (drop n s) apart (feed_there s n found.0.high found.1 apart)

pub line_over : (s : Text) → pattern_ends s ≡ true → after_lines s ≡ s
line_over s h = rw h refl

pub line_goes_on : (s : Text) → pattern_ends s ≡ false → after_lines s ≡ after_texts s
line_goes_on s h = rw h refl
