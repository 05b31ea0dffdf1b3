-- What stands before the next brace, and a brace that begins no placeable.
use Rattle.std.proofs.Common.{◌≡◌, ◌∙◌, ℕ, zero, suc, ◌<◌, ◌≤◌, ◌-◌, true, false, [], ◌∷◌, length, drop, get_or, Some, None, refl, arith}
use Rattle.std.specs.Prelude.{◌==◌}
use Rattle.memchr.specs.Find.{IsFirstByte, is_byte}
use Rattle.fluent_grammar.specs.Words.{Text, open_brace}
use Rattle.lint_findings.specs.Quoted.{quoted_in, reference_in_braces}
use Rattle.lint_flaws.proofs.Backslashes.{not_true}

one_passed : (n c : ℕ) (cs : Text) → (c == open_brace) ≡ false → quoted_in n (c ∷ cs) ≡ quoted_in n cs
one_passed n c cs h = rw h refl

nothing_before : (n : ℕ) (s : Text) (k : ℕ) → k ≤ length s → ((j : ℕ) → j < k → is_byte 123 (get_or s j 0) ≡ true → ⊥) → quoted_in n s ≡ quoted_in n (drop k s)
nothing_before n s zero le none = refl
nothing_before n [] (suc k) le none = refl
nothing_before n (c ∷ cs) (suc k) le none =
    one_passed n c cs (not_true (is_byte 123 c) (none 0 (omega arith))) ∙ nothing_before n cs k (omega (arith, le)) (λ j lt. none (suc j) (omega (arith, lt)))

pub brace_is_next : (n : ℕ) (s : Text) (k : ℕ) → IsFirstByte (is_byte 123) s (Some k) → quoted_in n s ≡ quoted_in n (drop k s)
brace_is_next n s k found = nothing_before n s k (omega (arith, found.0.high)) (λ j lt. found.0.before j (omega arith) lt)

all_dropped : (n : ℕ) (s : Text) → quoted_in n (drop (length s) s) ≡ None
all_dropped n [] = refl
all_dropped n (c ∷ cs) = all_dropped n cs

pub no_brace : (n : ℕ) (s : Text) → IsFirstByte (is_byte 123) s None → quoted_in n s ≡ None
no_brace n s none = nothing_before n s (length s) (omega arith) (λ k lt. none k (omega arith) lt) ∙ all_dropped n s

-- a brace at the front that begins no placeable is passed
pub brace_passed : (n : ℕ) (s : Text) → reference_in_braces s ≡ None → quoted_in n s ≡ quoted_in n (drop 1 s)
brace_passed n [] h = refl
brace_passed n (c ∷ cs) h = rw h refl

-- one that begins a placeable is found
brace_found : (n : ℕ) (s r : Text) → reference_in_braces s ≡ Some r → quoted_in n s ≡ Some (record { inside = n - length (drop 1 s); reference = r })
brace_found n [] r h = absurd cc
brace_found n (c ∷ cs) r h = rw h refl

pub found_there : (n i : ℕ) (s r : Text) → reference_in_braces s ≡ Some r → i ≡ n - length (drop 1 s) → quoted_in n s ≡ Some (record { inside = i; reference = r })
found_there n i s r h e = rw e (brace_found n s r h)
