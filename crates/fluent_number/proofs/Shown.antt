-- The text of a number, read again.
use Rattle.std.proofs.Common.{◌≡◌, Bool, true, false, cond, ◌&&◌, nat_le, ℕ, zero, suc, ◌+◌, ◌-◌, ◌*◌, ◌/◌, ◌%◌, ◌^◌, ◌<◌, ◌≤◌, [], ◌∷◌, ◌++◌, ◌==◌, refl, sym, ap, ◌∙◌, subst, length, decimal, Some, None, option_map, unwrap_or, is_none, ℤ, pos, negsuc, arith}
use Rattle.std.specs.Prelude.{unsigned_abs}
use Rattle.std.specs.List.{list_all}
use Rattle.std.specs.Char.{is_ascii_digit}
use Rattle.std.proofs.lemmas.Fmt.{digits_decimal, digits_value-decimal, decimal_nonempty}
use Rattle.std.proofs.lemmas.List.{append-nil, length-append, length-replicate, take_all}
use Rattle.std.proofs.lemmas.List.Folds.{list_all-append}
use Rattle.std.proofs.lemmas.Bool.{and_parts, and_from, eqb-true, leb-true, leb-false, le-leb}
use Rattle.std.proofs.lemmas.Nat.{pow-add}
use Rattle.fluent_number.specs.Decimal.{signed, whole_of, fraction_of}
use Rattle.fluent_number.specs.Digits.{Text, digits_worth, last_digits}
use Rattle.fluent_number.specs.Laws.{shown_fraction, as_shown}
use Rattle.fluent_number.specs.Number.{Number}
use Rattle.fluent_number.specs.Reading.{read_decimal, number_read, read_number}
use Rattle.fluent_number.specs.Spelling.{Sign, no_sign, minus, sign_text, is_minus, point_text, spelled}
use Rattle.fluent_number.specs.Text.{number_text, fraction_text, filled_up, point_and, minus_of}
use Rattle.fluent_number.proofs.EndZeros.{last_digits_step, last_digits_none, length-last_digits}
use Rattle.fluent_number.proofs.LastDigits.{worth-last_digits}
use Rattle.fluent_number.proofs.Numerals.{AreDecimal, by_places, read_decimal_some, read_decimal_none}
use Rattle.fluent_number.proofs.Spelled.{read_spelled}
use Rattle.fluent_number.proofs.Zeros.{zeros, zeros_back, worth-append-zeros}

abbrev pub sign_shown : ℤ → Sign
sign_shown (pos n) = no_sign
sign_shown (negsuc n) = minus

minus_shown : (value : ℤ) → minus_of value ≡ sign_text (sign_shown value)
minus_shown (pos n) = refl
minus_shown (negsuc n) = refl

pub signed_back : (value : ℤ) → signed (is_minus (sign_shown value)) (unsigned_abs value) ≡ value
signed_back (pos n) = refl
signed_back (negsuc n) = refl

chosen_point : (bare : Bool) (digits : Text) → cond bare [] (46 ∷ digits) ≡ point_text (cond bare None (Some digits))
chosen_point true digits = refl
chosen_point false digits = refl

-- the text of a number, as it is spelled
pub number_text-spelled : (number : Number) → number_text number ≡ spelled (sign_shown number.value) (decimal (whole_of number.value)) (shown_fraction number)
unfolding number_text
number_text-spelled number =
    let least = number.options.minimum_fraction_digits in
    let digits = fraction_text number.value in
    ap (λ m. m ++ (decimal (whole_of number.value) ++ point_and least digits)) (minus_shown number.value)
    ∙ ap (λ p. sign_text (sign_shown number.value) ++ (decimal (whole_of number.value) ++ p)) (chosen_point (is_none least && length digits == 0) (filled_up (unwrap_or least 0) digits))

-- what is shown after the point: the digits of the fraction, and zeros
pub record IsShown (value : ℤ) (shown : Text) : Type 0 where
  pub count : ℕ
  pub shown_is : shown ≡ fraction_text value ++ zeros count

shown_chosen : (bare : Bool) (least : ℕ) (value : ℤ) → (bare ≡ true → length (fraction_text value) ≡ 0) → IsShown value (unwrap_or (cond bare None (Some (filled_up least (fraction_text value)))) [])
shown_chosen true least value empty =
    let nothing : fraction_text value ≡ [] = sym (take_all 0 (fraction_text value) (let e = empty refl in omega arith)) in
    record { count = 0; shown_is = sym nothing ∙ sym (append-nil (fraction_text value)) }
shown_chosen false least value empty = record { count = least - length (fraction_text value); shown_is = refl }

pub is_shown : (number : Number) → IsShown number.value (unwrap_or (shown_fraction number) [])
is_shown number =
    let least = number.options.minimum_fraction_digits in
    let digits = fraction_text number.value in
    shown_chosen (is_none least && length digits == 0) (unwrap_or least 0) number.value
    (λ e. eqb-true (length digits) 0 (and_parts (is_none least) (length digits == 0) e).1)

-- the 18 digits of a fraction are those that are shown without zeros, and zeros
pub eighteen : (value : ℤ) → (length (fraction_text value) ≤ 18) × (last_digits 18 (fraction_of value) ≡ fraction_text value ++ zeros (18 - length (fraction_text value)))
eighteen value =
    let all = last_digits 18 (fraction_of value) in
    let long = length-last_digits 18 (fraction_of value) in
    let back = zeros_back all in
    let joined = ap length back ∙ long in
    let split = length-append (fraction_text value) (zeros (length all - length (fraction_text value))) in
    (omega (arith, joined, split), sym back ∙ ap (λ n. fraction_text value ++ zeros (n - length (fraction_text value))) long)

pub fraction_small : (value : ℤ) → fraction_of value < 10 ^ 18
fraction_small value = omega arith

-- what is shown after the point is worth the fraction
pub shown_worth : (value : ℤ) (count : ℕ) → length (fraction_text value ++ zeros count) ≤ 18 → digits_worth (fraction_text value ++ zeros count) * 10 ^ (18 - length (fraction_text value ++ zeros count)) ≡ fraction_of value
shown_worth value count short =
    let digits = fraction_text value in
    let long : length (digits ++ zeros count) ≡ length digits + count = length-append digits (zeros count) ∙ ap (λ n. length digits + n) (length-replicate {A = ℕ} count 48) in
    let places : count + (18 - length (digits ++ zeros count)) ≡ 18 - length digits = omega (arith, long, short) in
    let powers : 10 ^ count * 10 ^ (18 - length (digits ++ zeros count)) ≡ 10 ^ (18 - length digits) = sym (pow-add 10 count (18 - length (digits ++ zeros count))) ∙ ap (λ k. 10 ^ k) places in
    let times : digits_worth digits * (10 ^ count * 10 ^ (18 - length (digits ++ zeros count))) ≡ digits_worth digits * 10 ^ (18 - length digits) = ap (λ p. digits_worth digits * p) powers in
    let zeros_count = ap (λ n. n * 10 ^ (18 - length (digits ++ zeros count))) (worth-append-zeros digits count) in
    let whole = sym (worth-append-zeros digits (18 - length digits)) ∙ ap digits_worth (sym (eighteen value).1) ∙ worth-last_digits 18 (fraction_of value) (fraction_small value) in
    zeros_count ∙ omega (arith, times, whole)

-- the digits of the fraction are digits
pub last_digits-are_digits : (k n : ℕ) → list_all is_ascii_digit (last_digits k n) ≡ true
last_digits-are_digits zero n = ap (list_all is_ascii_digit) (last_digits_none n)
last_digits-are_digits (suc k) n =
    let d = n % 10 in
    let one : is_ascii_digit (48 + d) ≡ true = and_from (nat_le 48 (48 + d)) (nat_le (48 + d) 57) (le-leb 48 (48 + d) (omega arith)) (le-leb (48 + d) 57 (omega arith)) in
    ap (list_all is_ascii_digit) (last_digits_step k n)
    ∙ list_all-append is_ascii_digit (last_digits k (n / 10)) ((48 + d) ∷ [])
    ∙ and_from (list_all is_ascii_digit (last_digits k (n / 10))) (is_ascii_digit (48 + d) && true) (last_digits-are_digits k (n / 10)) (and_from (is_ascii_digit (48 + d)) true one refl)

pub zeros-are_digits : (k : ℕ) → list_all is_ascii_digit (zeros k) ≡ true
zeros-are_digits zero = refl
zeros-are_digits (suc k) = zeros-are_digits k

pub fraction-are_digits : (value : ℤ) → list_all is_ascii_digit (fraction_text value) ≡ true
fraction-are_digits value =
    let digits = fraction_text value in
    let all = eighteen value in
    (and_parts (list_all is_ascii_digit digits) (list_all is_ascii_digit (zeros (18 - length digits)))
    (sym (list_all-append is_ascii_digit digits (zeros (18 - length digits))) ∙ ap (list_all is_ascii_digit) (sym all.1) ∙ last_digits-are_digits 18 (fraction_of value))).0

-- what is shown is a decimal where 18 digits hold it
pub shown_decimal : (value : ℤ) (shown : Text) → whole_of value < 2 ^ 64 → IsShown value shown → length shown ≤ 18 → read_decimal (is_minus (sign_shown value)) (decimal (whole_of value)) shown ≡ Some value
shown_decimal value shown small is short =
    let whole = decimal (whole_of value) in
    let behind = fraction_text value ++ zeros is.count in
    let whole_worth = digits_value-decimal by_places (whole_of value) small in
    let short_behind : length behind ≤ 18 = subst (λ t. length t ≤ 18) is.shown_is short in
    let are : AreDecimal whole behind = record {
      whole_digits = digits_decimal by_places (whole_of value) small;
      digits_behind = list_all-append is_ascii_digit (fraction_text value) (zeros is.count) ∙ and_from (list_all is_ascii_digit (fraction_text value)) (list_all is_ascii_digit (zeros is.count)) (fraction-are_digits value) (zeros-are_digits is.count);
      some = omega (arith, decimal_nonempty (whole_of value) small);
      short = short_behind;
      fits = omega (arith, whole_worth, small);
    } in
    let units : digits_worth whole * 10 ^ 18 + digits_worth behind * 10 ^ (18 - length behind) ≡ unsigned_abs value = omega (arith, whole_worth, shown_worth value is.count short_behind) in
    ap (read_decimal (is_minus (sign_shown value)) whole) is.shown_is
    ∙ read_decimal_some (is_minus (sign_shown value)) whole behind are
    ∙ ap (λ n. Some (signed (is_minus (sign_shown value)) n)) units
    ∙ ap (λ z. Some z) (signed_back value)

pub too_long : (negative : Bool) (whole shown : Text) → 18 < length shown → read_decimal negative whole shown ≡ None
too_long negative whole shown long = read_decimal_none negative whole shown (λ are. omega (arith, long, are.short))

reads_shown : (number : Number) (short : Bool) → whole_of number.value < 2 ^ 64 → nat_le (length (unwrap_or (shown_fraction number) [])) 18 ≡ short → option_map (number_read (shown_fraction number)) (read_decimal (is_minus (sign_shown number.value)) (decimal (whole_of number.value)) (unwrap_or (shown_fraction number) [])) ≡ cond short (Some (number_read (shown_fraction number) number.value)) None
reads_shown number true small e =
    let shown = unwrap_or (shown_fraction number) [] in
    ap (option_map (number_read (shown_fraction number))) (shown_decimal number.value shown small (is_shown number) (leb-true (length shown) 18 e))
reads_shown number false small e =
    let shown = unwrap_or (shown_fraction number) [] in
    ap (option_map (number_read (shown_fraction number))) (too_long (is_minus (sign_shown number.value)) (decimal (whole_of number.value)) shown (leb-false (length shown) 18 e))

-- the text of a number is read as that number
pub reads_its_text : (number : Number) → whole_of number.value < 2 ^ 64 → read_number (number_text number) ≡ as_shown number
reads_its_text number small =
    let short = nat_le (length (unwrap_or (shown_fraction number) [])) 18 in
    ap read_number (number_text-spelled number)
    ∙ read_spelled (sign_shown number.value) (decimal (whole_of number.value)) (shown_fraction number) (digits_decimal by_places (whole_of number.value) small)
    ∙ reads_shown number short small refl
