-- A decimal's parts are found again in its number of units.
use Rattle.std.specs.Prelude.{◌≡◌, ℕ, zero, suc, ◌+◌, ◌*◌, ◌/◌, ◌%◌, ◌<◌, Bool, true, false, refl, unsigned_abs}
use Rattle.std.proofs.Common.{ap, ◌∙◌, arith}
use Rattle.std.proofs.lemmas.Nat.{div-mul-add, mod-mul-add}
use Rattle.fluent_number.specs.Decimal.{units_per_one, signed, is_below_zero, whole_of, fraction_of}

pub unsigned_abs-signed : (negative : Bool) (n : ℕ) → unsigned_abs (signed negative n) ≡ n
unsigned_abs-signed false n = refl
unsigned_abs-signed true zero = refl
unsigned_abs-signed true (suc n) = refl

pub is_below_zero-signed : (negative : Bool) (n : ℕ) → (negative ≡ true → 0 < n) → is_below_zero (signed negative n) ≡ negative
is_below_zero-signed false n h = refl
is_below_zero-signed true zero h = absurd (omega (arith, h refl))
is_below_zero-signed true (suc n) h = refl

pub whole_of-signed : (negative : Bool) (whole fraction : ℕ) → fraction < units_per_one → whole_of (signed negative (whole * units_per_one + fraction)) ≡ whole
whole_of-signed negative whole fraction small =
    ap (λ n. n / units_per_one) (unsigned_abs-signed negative (whole * units_per_one + fraction)) ∙ div-mul-add whole units_per_one fraction small

pub fraction_of-signed : (negative : Bool) (whole fraction : ℕ) → fraction < units_per_one → fraction_of (signed negative (whole * units_per_one + fraction)) ≡ fraction
fraction_of-signed negative whole fraction small =
    ap (λ n. n % units_per_one) (unsigned_abs-signed negative (whole * units_per_one + fraction)) ∙ mod-mul-add whole units_per_one fraction small

-- the sign of a decimal that isn't zero if it is negative
pub sign_of-signed : (negative : Bool) (whole fraction : ℕ) → (negative ≡ true → 0 < whole + fraction) → is_below_zero (signed negative (whole * units_per_one + fraction)) ≡ negative
sign_of-signed negative whole fraction h =
    is_below_zero-signed negative (whole * units_per_one + fraction) (λ e. omega (arith, h e))
