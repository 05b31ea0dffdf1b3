-- Steps of sets of places.
use Rattle.std.proofs.Common.{◌≡◌, ℕ, suc, ◌+◌, ◌-◌, ◌/◌, ◌<◌, refl, arith}
use Rattle.fluent_dates.specs.Patterns.{last_from, later}

-- one more place
pub last_next : (place last places others : ℕ) → place < 11 → last_from (11 - (place + 1)) (place + 1) (later places others place last) (places / 2) (others / 2) ≡ last_from (11 - place) place last places others
last_next place last places others below = let e : 11 - place ≡ suc (11 - (place + 1)) = omega (arith, below) in rw e refl
