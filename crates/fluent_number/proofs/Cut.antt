-- Zeros cut off the end of a number's digits.
use Rattle.std.proofs.Common.{◌≡◌, ◌≢◌, ⊎_elim, ℕ, zero, suc, ◌+◌, ◌-◌, ◌*◌, ◌/◌, ◌%◌, ◌^◌, ◌<◌, ◌≤◌, sym, ap, ◌∙◌, add-zero, arith}
use Rattle.std.proofs.lemmas.Bool.{cases_lt}
use Rattle.std.proofs.lemmas.Nat.{pow-add, div_below, div-add-mod', mod-mul-add}
use Rattle.std.proofs.Math.Nat.{one-le-pow, pow-le-pow_right, mul-le-mul_right}
use Rattle.fluent_number.specs.Digits.{last_digits, without_end_zeros}
use Rattle.fluent_number.proofs.EndZeros.{last_digits_step, without_end_zeros_other}
use Rattle.fluent_number.proofs.Zeros.{without_end_zeros-zeros, last_digits-scaled}

-- a number that ends in this many zeros is that many powers of ten
divided : (digits m : ℕ) → digits % 10 ^ m ≡ 0 → digits ≡ digits / 10 ^ m * 10 ^ m
divided digits m ends = sym (div-add-mod' digits (10 ^ m)) ∙ omega (arith, ends)

-- it has more digits than zeros at the end
pub zeros_fit : (count digits m : ℕ) → 0 < digits → digits < 10 ^ count → digits % 10 ^ m ≡ 0 → m ≤ count
zeros_fit count digits m some below ends =
    ⊎_elim
    (λ (less : count < m).
    let power = pow-le-pow_right {n = 10} (omega arith) {i = count} {j = m} (omega (arith, less)) in
    let back = divided digits m ends in
    let quotient : 0 < digits / 10 ^ m = ⊎_elim (λ (low : 0 < digits / 10 ^ m). low) (λ (high : digits / 10 ^ m ≤ 0). (let none : digits / 10 ^ m ≡ 0 = omega (arith, high) in let nothing = ap (λ q. q * 10 ^ m) none in absurd (omega (arith, back, nothing, some)))) (cases_lt 0 (digits / 10 ^ m)) in
    let large = mul-le-mul_right (10 ^ m) quotient in
    absurd (omega (arith, large, back, power, below)))
    (λ (fits : m ≤ count). fits)
    (cases_lt count m)

pub cut_same : (count digits m : ℕ) → m ≤ count → digits % 10 ^ m ≡ 0 → without_end_zeros (last_digits (count - m) (digits / 10 ^ m)) ≡ without_end_zeros (last_digits count digits)
cut_same count digits m fits ends =
    let total : count - m + m ≡ count = omega (arith, fits) in
    sym (without_end_zeros-zeros (last_digits (count - m) (digits / 10 ^ m)) m)
    ∙ ap without_end_zeros (sym (last_digits-scaled (count - m) m (digits / 10 ^ m)))
    ∙ ap (λ d. without_end_zeros (last_digits (count - m + m) d)) (sym (divided digits m ends))
    ∙ ap (λ k. without_end_zeros (last_digits k digits)) total

pub cut_below : (count digits m : ℕ) → m ≤ count → digits < 10 ^ count → digits / 10 ^ m < 10 ^ (count - m)
cut_below count digits m fits below =
    let total : 10 ^ count ≡ 10 ^ (count - m) * 10 ^ m = ap (λ k. 10 ^ k) (let e : count ≡ count - m + m = omega (arith, fits) in e) ∙ pow-add 10 (count - m) m in
    div_below digits (10 ^ m) (10 ^ (count - m)) (one-le-pow m 10 (omega arith)) (omega (arith, total, below))

pub cut_fewer : (digits m : ℕ) → digits % 10 ^ m ≡ 0 → digits % 10 ^ (m + m) ≢ 0 → digits / 10 ^ m % 10 ^ m ≢ 0
cut_fewer digits m ends not_twice = λ again.
    let once = divided digits m ends in
    let twice = divided (digits / 10 ^ m) m again in
    let q = digits / 10 ^ m / 10 ^ m in
    let power = pow-add 10 m m in
    let product : digits / 10 ^ m * 10 ^ m ≡ q * 10 ^ m * 10 ^ m = ap (λ d. d * 10 ^ m) twice in
    let square : q * 10 ^ (m + m) ≡ q * (10 ^ m * 10 ^ m) = ap (λ p. q * p) power in
    let whole : digits ≡ q * 10 ^ (m + m) = omega (arith, once, product, square) in
    not_twice (ap (λ d. d % 10 ^ (m + m)) whole ∙ ap (λ n. n % 10 ^ (m + m)) (sym (add-zero (q * 10 ^ (m + m)))) ∙ mod-mul-add q (10 ^ (m + m)) 0 (one-le-pow (m + m) 10 (omega arith)))

-- digits that end in something else have no zeros at the end
pub no_end_zeros : (count digits : ℕ) → 0 < digits → digits < 10 ^ count → digits % 10 ≢ 0 → without_end_zeros (last_digits count digits) ≡ last_digits count digits
no_end_zeros zero digits some below last = absurd (omega (arith, some, below))
no_end_zeros (suc k) digits some below last =
    let other : 48 + digits % 10 ≢ 48 = λ e. last (omega (arith, e)) in
    ap without_end_zeros (last_digits_step k digits)
    ∙ without_end_zeros_other (last_digits k (digits / 10)) (48 + digits % 10) other
    ∙ sym (last_digits_step k digits)

-- a fraction ends in fewer than 32 zeros
pub not_thirty_two : (fraction : ℕ) → fraction < 10 ^ 18 → fraction ≢ 0 → fraction % 10 ^ (16 + 16) ≢ 0
not_thirty_two fraction below some = λ ends. some (omega (arith, ends, below))
