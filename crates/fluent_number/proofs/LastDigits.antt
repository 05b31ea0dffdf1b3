-- What the first of the last digits of a number are worth.
use Rattle.std.proofs.Common.{◌≡◌, ℕ, zero, suc, ◌+◌, ◌-◌, ◌*◌, ◌/◌, ◌%◌, ◌^◌, ◌<◌, ◌≤◌, [], ◌∷◌, sym, ap, ◌∙◌, length, take, max, min, unwrap_or, pos, arith, add-zero}
use Rattle.std.specs.Prelude.{unsigned_abs}
use Rattle.std.specs.List.{suffix_len}
use Rattle.std.proofs.lemmas.List.{take_all, take-append-le, take_min, length-take}
use Rattle.std.proofs.Math.Nat.{pow-succ', div-div-eq-div-mul, one-le-pow}
use Rattle.std.proofs.lemmas.Nat.{pow-add, div_below}
use Rattle.fluent_number.proofs.EndZeros.{last_digits_step, last_digits_none, length-last_digits, is_zero}
use Rattle.fluent_number.proofs.Worth.{worth-append}
use Rattle.fluent_number.specs.Decimal.{whole_of, fraction_of}
use Rattle.fluent_number.specs.Number.{Number}
use Rattle.fluent_number.specs.Operands.{operands_of}
use Rattle.fluent_number.specs.Text.{fraction_text}
use Rattle.fluent_number.specs.Digits.{Text, digits_worth, last_digits, without_end_zeros}

-- the last digits write the number, where it has no more
pub worth-last_digits : (k n : ℕ) → n < 10 ^ k → digits_worth (last_digits k n) ≡ n
worth-last_digits zero n small = ap digits_worth (last_digits_none n) ∙ (let none : n ≡ 0 = omega (arith, small) in sym none)
worth-last_digits (suc k) n small =
    let power = pow-succ' 10 k in
    let front = worth-last_digits k (n / 10) (omega (arith, small, power)) in
    let joined = worth-append (last_digits k (n / 10)) ((48 + n % 10) ∷ []) in
    ap digits_worth (last_digits_step k n) ∙ omega (arith, joined, front)

-- the first of them are the last digits of the number without its end
pub take-last_digits : (j m n : ℕ) → take j (last_digits (j + m) n) ≡ last_digits j (n / 10 ^ m)
take-last_digits j zero n =
    ap (λ k. take j (last_digits k n)) (add-zero j)
    ∙ take_all j (last_digits j n) (let long = length-last_digits j n in omega arith)
    ∙ ap (last_digits j) (let same : n ≡ n / 1 = omega arith in same)
take-last_digits j (suc m) n =
    let count : j + suc m ≡ suc (j + m) = omega arith in
    let front = last_digits (j + m) (n / 10) in
    let long = length-last_digits (j + m) (n / 10) in
    ap (λ k. take j (last_digits k n)) count
    ∙ ap (take j) (last_digits_step (j + m) n)
    ∙ take-append-le j front ((48 + n % 10) ∷ []) (omega (arith, long))
    ∙ take-last_digits j m (n / 10)
    ∙ ap (last_digits j) (div-div-eq-div-mul n 10 (10 ^ m) ∙ ap (λ p. n / p) (sym (pow-succ' 10 m)))

-- the first v of 18 digits write the number without the others
pub first_worth : (v n : ℕ) → v ≤ 18 → n < 10 ^ 18 → digits_worth (take v (last_digits 18 n)) ≡ n / 10 ^ (18 - v)
first_worth v n short small =
    let count : v + (18 - v) ≡ 18 = omega arith in
    let powers : 10 ^ v * 10 ^ (18 - v) ≡ 10 ^ 18 = sym (pow-add 10 v (18 - v)) ∙ ap (λ k. 10 ^ k) count in
    let below : n / 10 ^ (18 - v) < 10 ^ v = div_below n (10 ^ (18 - v)) (10 ^ v) (one-le-pow (18 - v) 10 (omega arith)) (omega (arith, powers, small)) in
    ap (λ k. digits_worth (take v (last_digits k n))) (sym count)
    ∙ ap digits_worth (take-last_digits v (18 - v) n)
    ∙ worth-last_digits v (n / 10 ^ (18 - v)) below

-- as many digits from the front as are left without the zeros at the end are just those
pub take-without_end_zeros : (ds : Text) → take (length (without_end_zeros ds)) ds ≡ without_end_zeros ds
take-without_end_zeros ds =
    let kept = length ds - suffix_len is_zero ds in
    ap (λ n. take n ds) (length-take kept ds) ∙ take_min kept ds

-- the significant digits: how many there are, and what they write
pub significant : (fraction w t : ℕ) → last_digits w t ≡ without_end_zeros (last_digits 18 fraction) → t < 10 ^ w → (w ≡ length (without_end_zeros (last_digits 18 fraction))) × (t ≡ digits_worth (take (length (without_end_zeros (last_digits 18 fraction))) (last_digits 18 fraction)))
significant fraction w t same small = (
  sym (length-last_digits w t) ∙ ap length same,
  sym (worth-last_digits w t small) ∙ ap digits_worth (same ∙ sym (take-without_end_zeros (last_digits 18 fraction))),
)

-- the operands of a number, each by what it is
pub operands_made : (number : Number) (i v w f t : ℕ) → i ≡ whole_of number.value → last_digits w t ≡ fraction_text number.value → t < 10 ^ w → w ≤ 18 → v ≡ max w (min (unwrap_or number.options.minimum_fraction_digits 0) 18) → f ≡ fraction_of number.value / 10 ^ (18 - v) → record { n = pos (unsigned_abs number.value); i = i; v = v; w = w; f = f; t = t } ≡ operands_of number
unfolding operands_of
operands_made number i v w f t i_is same small short v_is f_is =
    let found = significant (fraction_of number.value) w t same small in
    let least = min (unwrap_or number.options.minimum_fraction_digits 0) 18 in
    let v_same : v ≡ max (length (fraction_text number.value)) least = v_is ∙ ap (λ k. max k least) found.0 in
    let v_short : v ≤ 18 = omega (arith, v_is, short) in
    let below : fraction_of number.value < 10 ^ 18 = omega arith in
    let f_same = f_is ∙ sym (first_worth v (fraction_of number.value) v_short below) ∙ ap (λ k. digits_worth (take k (last_digits 18 (fraction_of number.value)))) v_same in
    λ j. record { n = pos (unsigned_abs number.value); i = i_is j; v = v_same j; w = found.0 j; f = f_same j; t = found.1 j }
