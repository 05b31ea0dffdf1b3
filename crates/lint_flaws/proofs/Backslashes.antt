-- What stands before the next backslash.
use Rattle.std.proofs.Common.{◌≡◌, ◌∙◌, ℕ, zero, suc, ◌<◌, ◌≤◌, Bool, true, false, [], ◌∷◌, length, drop, get_or, Some, None, refl, arith}
use Rattle.std.specs.Prelude.{◌==◌}
use Rattle.memchr.specs.Find.{IsFirstByte, is_byte}
use Rattle.fluent_grammar.specs.Words.{Text, backslash}
use Rattle.lint_findings.specs.Escapes.{invalid_escapes}

pub not_true : (b : Bool) → (b ≡ true → ⊥) → b ≡ false
not_true true h = absurd (h refl)
not_true false h = refl

one_passed : (c : ℕ) (cs : Text) → (c == backslash) ≡ false → invalid_escapes (c ∷ cs) ≡ invalid_escapes cs
one_passed c [] h = refl
one_passed c (d ∷ ds) h = rw h refl

pub nothing_before : (s : Text) (n : ℕ) → n ≤ length s → ((k : ℕ) → k < n → is_byte 92 (get_or s k 0) ≡ true → ⊥) → invalid_escapes s ≡ invalid_escapes (drop n s)
nothing_before s zero le none = refl
nothing_before [] (suc n) le none = refl
nothing_before (c ∷ cs) (suc n) le none =
    one_passed c cs (not_true (is_byte 92 c) (none 0 (omega arith))) ∙ nothing_before cs n (omega (arith, le)) (λ k lt. none (suc k) (omega (arith, lt)))

pub backslash_is_next : (s : Text) (n : ℕ) → IsFirstByte (is_byte 92) s (Some n) → invalid_escapes s ≡ invalid_escapes (drop n s)
backslash_is_next s n found = nothing_before s n (omega (arith, found.0.high)) (λ k lt. found.0.before k (omega arith) lt)

all_dropped : (s : Text) → invalid_escapes (drop (length s) s) ≡ []
all_dropped [] = refl
all_dropped (c ∷ cs) = all_dropped cs

pub no_backslash : (s : Text) → IsFirstByte (is_byte 92) s None → invalid_escapes s ≡ []
no_backslash s none = nothing_before s (length s) (omega arith) (λ k lt. none k (omega arith) lt) ∙ all_dropped s
