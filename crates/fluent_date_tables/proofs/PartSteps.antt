-- Steps of texts that have bars between their parts.
use Rattle.std.proofs.Common.{◌≡◌, ◌≢◌, ℕ, zero, suc, ◌<◌, List, [], ◌∷◌, refl, ap, ◌∙◌, length, get_or, take, arith}
use Rattle.std.proofs.lemmas.Bool.{cond-true, cond-false, eq-eqb, ne_eqb}
use Rattle.fluent_date_tables.specs.Parts.{before}

pub before_at : (xs : List ℕ) (i : ℕ) → i < length xs → get_or xs i 0 ≡ 124 → ((k : ℕ) → k < i → get_or xs k 0 ≢ 124) → before xs ≡ take i xs
before_at [] i inside here first = absurd (omega (arith, inside))
before_at (x ∷ xs) zero inside here first = cond-true _ _ _ (eq-eqb x 124 here)
before_at (x ∷ xs) (suc i) inside here first =
    cond-false _ _ _ (ne_eqb x 124 (first 0 (omega arith)))
    ∙ ap (λ r. x ∷ r) (before_at xs i (omega (arith, inside)) here (λ k below. first (suc k) (omega (arith, below))))

pub before_none : (xs : List ℕ) → ((k : ℕ) → k < length xs → get_or xs k 0 ≢ 124) → before xs ≡ xs
before_none [] none = refl
before_none (x ∷ xs) none =
    cond-false _ _ _ (ne_eqb x 124 (none 0 (omega arith))) ∙ ap (λ r. x ∷ r) (before_none xs (λ k below. none (suc k) (omega (arith, below))))
