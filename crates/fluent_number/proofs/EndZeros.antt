-- The last digits of a number, and zeros at the end of digits.
use Rattle.std.proofs.Common.{◌≡◌, ◌≢◌, Bool, true, false, cond, eq-eqb, ◌&&◌, ◌⊎◌, ⊎_elim, Option, is_none, unwrap_or, replicate, ℕ, zero, suc, ◌+◌, ◌-◌, ◌*◌, ◌/◌, ◌%◌, ◌^◌, ◌<◌, ◌≤◌, [], ◌∷◌, ◌++◌, refl, sym, ap, ◌∙◌, length, take, ◌==◌, decimal, arith}
use Rattle.std.specs.List.{suffix_len, prefix_len}
use Rattle.std.proofs.lemmas.List.{length-append, take_all, take-append-le, reverse-append}
use Rattle.std.proofs.lemmas.Bool.{ne_eqb, and_from}
use Rattle.std.proofs.Math.Bool.{and-false}
use Rattle.std.proofs.lemmas.Fmt.{decimal_step, decimal_digit}
use Rattle.std.proofs.Math.Nat.{pow-suc, one-le-pow, pow-le-pow_right}
use Rattle.fluent_number.specs.Text.{point_and, filled_up}
use Rattle.fluent_number.specs.Digits.{Text, last_digits, without_end_zeros}

abbrev pub is_zero : ℕ → Bool
is_zero c = c == 48

-- one digit after the others
pub last_digits_step : (k n : ℕ) → last_digits (suc k) n ≡ last_digits k (n / 10) ++ (48 + n % 10) ∷ []
unfolding last_digits
last_digits_step k n = refl

pub last_digits_none : (n : ℕ) → last_digits 0 n ≡ []
unfolding last_digits
last_digits_none n = refl

pub length-last_digits : (k n : ℕ) → length (last_digits k n) ≡ k
length-last_digits zero n = ap length (last_digits_none n)
length-last_digits (suc k) n =
    ap length (last_digits_step k n) ∙ length-append (last_digits k (n / 10)) ((48 + n % 10) ∷ []) ∙ (let before = length-last_digits k (n / 10) in omega arith)

suffix_len_push : (ds : Text) (c : ℕ) → suffix_len is_zero (ds ++ c ∷ []) ≡ cond (is_zero c) (1 + suffix_len is_zero ds) 0
suffix_len_push ds c = ap (prefix_len is_zero) (reverse-append ds (c ∷ []))

-- a zero at the end goes
pub without_end_zeros_zero : (ds : Text) → without_end_zeros (ds ++ 48 ∷ []) ≡ without_end_zeros ds
without_end_zeros_zero ds =
    let long = length-append ds (48 ∷ []) in
    let more = suffix_len_push ds 48 in
    let count : length (ds ++ 48 ∷ []) - suffix_len is_zero (ds ++ 48 ∷ []) ≡ length ds - suffix_len is_zero ds = omega (arith, long, more) in
    ap (λ n. take n (ds ++ 48 ∷ [])) count ∙ take-append-le (length ds - suffix_len is_zero ds) ds (48 ∷ []) (omega arith)

-- another digit at the end stays, and all before it
pub without_end_zeros_other : (ds : Text) (c : ℕ) → c ≢ 48 → without_end_zeros (ds ++ c ∷ []) ≡ ds ++ c ∷ []
without_end_zeros_other ds c other =
    let none : suffix_len is_zero (ds ++ c ∷ []) ≡ 0 = suffix_len_push ds c ∙ ap (λ b. cond b (1 + suffix_len is_zero ds) 0) (ne_eqb c 48 other) in
    take_all (length (ds ++ c ∷ []) - suffix_len is_zero (ds ++ c ∷ [])) (ds ++ c ∷ []) (omega (arith, none))

pub power_le : (count : ℕ) → count ≤ 18 → 10 ^ count ≤ 10 ^ 18
power_le count short = pow-le-pow_right {n = 10} (omega arith) short

-- a one in front keeps the zeros at the front
pub decimal_one_and : (count digits : ℕ) → count ≤ 18 → digits < 10 ^ count → decimal (10 ^ count + digits) ≡ 49 ∷ last_digits count digits
decimal_one_and zero digits short below =
    let none : digits ≡ 0 = omega (arith, below) in
    ap (λ d. decimal (1 + d)) none ∙ decimal_digit 1 (omega arith) ∙ ap (λ ds. 49 ∷ ds) (sym (last_digits_none digits))
decimal_one_and (suc k) digits short below =
    let power : 10 ^ suc k ≡ 10 ^ k * 10 = pow-suc 10 k in
    let small : digits / 10 < 10 ^ k = omega (arith, below, power) in
    let front : (10 ^ suc k + digits) / 10 ≡ 10 ^ k + digits / 10 = omega (arith, power) in
    let last : (10 ^ suc k + digits) % 10 ≡ digits % 10 = omega (arith, power) in
    let positive = one-le-pow k 10 (omega arith) in
    let most = power_le (suc k) short in
    decimal_step (10 ^ suc k + digits) (omega (arith, power, positive)) (omega (arith, below, most))
    ∙ ap (λ n. decimal n ++ (48 + (10 ^ suc k + digits) % 10) ∷ []) front
    ∙ ap (λ d. decimal (10 ^ k + digits / 10) ++ (48 + d) ∷ []) last
    ∙ ap (λ ds. ds ++ (48 + digits % 10) ∷ []) (decimal_one_and k (digits / 10) (omega (arith, short)) small)
    ∙ ap (λ ds. 49 ∷ ds) (sym (last_digits_step k digits))

-- no fraction
pub no_digits : last_digits 0 0 ≡ without_end_zeros (last_digits 18 0)
unfolding last_digits
no_digits = refl

-- nothing is written where no point is due
pub point_and_none : (least : Option ℕ) (count digits : ℕ) → is_none least ≡ true → count ≡ 0 → point_and least (last_digits count digits) ≡ []
point_and_none least count digits bare none =
    let empty : length (last_digits count digits) ≡ 0 = length-last_digits count digits ∙ none in
    ap (λ b. cond b [] (46 ∷ filled_up (unwrap_or least 0) (last_digits count digits)))
    (and_from (is_none least) (length (last_digits count digits) == 0) bare (eq-eqb (length (last_digits count digits)) 0 empty))

-- a point, the digits and zeros where one is due
pub point_and_some : (least : Option ℕ) (count digits : ℕ) → (is_none least ≡ false) ⊎ (count ≢ 0) → point_and least (last_digits count digits) ≡ 46 ∷ last_digits count digits ++ replicate (unwrap_or least 0 - count) 48
point_and_some least count digits due =
    let ds = last_digits count digits in
    let long = length-last_digits count digits in
    let no : (is_none least && length ds == 0) ≡ false = ⊎_elim (λ e. ap (λ b. b && length ds == 0) e) (λ e. ap (λ b. is_none least && b) (ne_eqb (length ds) 0 (λ z. e (sym long ∙ z))) ∙ and-false (is_none least)) due in
    ap (λ b. cond b [] (46 ∷ filled_up (unwrap_or least 0) ds)) no ∙ ap (λ n. 46 ∷ ds ++ replicate (unwrap_or least 0 - n) 48) long
