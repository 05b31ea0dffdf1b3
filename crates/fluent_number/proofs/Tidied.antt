-- What was read, written again.
use Rattle.std.proofs.Common.{◌≡◌, ◌≢◌, ⊎_elim, Bool, true, false, cond, ◌&&◌, nat_lt, nat_le, ℕ, zero, suc, ◌+◌, ◌-◌, ◌*◌, ◌^◌, ◌<◌, ◌≤◌, [], ◌∷◌, ◌++◌, ◌==◌, refl, sym, ap, ◌∙◌, subst, get_or, length, decimal, Option, Some, None, unwrap_or, ℤ, arith}
use Rattle.std.specs.List.{list_all}
use Rattle.std.specs.Char.{is_ascii_digit}
use Rattle.std.proofs.lemmas.Fmt.{decimal-digits_value, decimal_digit}
use Rattle.std.proofs.lemmas.Bool.{and_parts, ne_eqb, eq-eqb, lt-ltb, le-ltb, le-leb, cases_eq, cases_lt}
use Rattle.std.proofs.Math.Nat.{one-le-pow, le-mul_of_pos_right}
use Rattle.fluent_number.specs.Decimal.{signed, whole_of, fraction_of}
use Rattle.fluent_number.specs.Digits.{Text, digits_worth, last_digits, without_end_zeros}
use Rattle.fluent_number.specs.Laws.{shown_fraction, without_front_zeros, tidied_whole, tidied}
use Rattle.fluent_number.specs.Number.{Number}
use Rattle.fluent_number.specs.Parts.{whole_of-signed, fraction_of-signed}
use Rattle.fluent_number.specs.Reading.{numeral_of, without_sign, begins_with_minus, units_of, number_read, read_number}
use Rattle.fluent_number.specs.Spelling.{sign_text, point_text}
use Rattle.fluent_number.specs.Text.{number_text, fraction_text, filled_up}
use Rattle.fluent_number.proofs.Numerals.{AreDecimal, by_places, units_parted, fraction_lt}
use Rattle.fluent_number.proofs.Shown.{sign_shown, number_text-spelled, reads_its_text}
use Rattle.fluent_number.proofs.Spelled.{WasRead, was_read}
use Rattle.fluent_number.proofs.Zeros.{zeros, zeros_back, without_end_zeros-zeros, last_digits-worth, last_digits-scaled}

-- the value that digits before and after a point have
abbrev value_of : Bool → Text → Text → ℤ
value_of negative whole behind = signed negative (units_of whole behind)

pub whole_of-read : (negative : Bool) (whole behind : Text) → AreDecimal whole behind → whole_of (value_of negative whole behind) ≡ digits_worth whole
whole_of-read negative whole behind are =
    let fraction = digits_worth behind * 10 ^ (18 - length behind) in
    ap (λ n. whole_of (signed negative n)) (units_parted whole behind are.short)
    ∙ whole_of-signed negative (digits_worth whole) fraction (fraction_lt behind are.digits_behind are.short)

pub fraction_of-read : (negative : Bool) (whole behind : Text) → AreDecimal whole behind → fraction_of (value_of negative whole behind) ≡ digits_worth behind * 10 ^ (18 - length behind)
fraction_of-read negative whole behind are =
    let fraction = digits_worth behind * 10 ^ (18 - length behind) in
    ap (λ n. fraction_of (signed negative n)) (units_parted whole behind are.short)
    ∙ fraction_of-signed negative (digits_worth whole) fraction (fraction_lt behind are.digits_behind are.short)

-- the digits after the point that are written of what was read
pub fraction_text-read : (negative : Bool) (whole behind : Text) → AreDecimal whole behind → fraction_text (value_of negative whole behind) ≡ without_end_zeros behind
fraction_text-read negative whole behind are =
    let n = length behind in
    let count : 18 ≡ n + (18 - n) = (let short = are.short in omega arith) in
    ap (λ f. without_end_zeros (last_digits 18 f)) (fraction_of-read negative whole behind are)
    ∙ ap (λ k. without_end_zeros (last_digits k (digits_worth behind * 10 ^ (18 - n)))) count
    ∙ ap without_end_zeros (last_digits-scaled n (18 - n) (digits_worth behind))
    ∙ ap (λ ds. without_end_zeros (ds ++ zeros (18 - n))) (last_digits-worth n behind are.digits_behind refl)
    ∙ without_end_zeros-zeros behind (18 - n)

-- they are shown as they were read
pub shown_fraction-read : (negative : Bool) (whole : Text) (fraction : Option Text) → AreDecimal whole (unwrap_or fraction []) → shown_fraction (number_read fraction (value_of negative whole (unwrap_or fraction []))) ≡ fraction
shown_fraction-read negative whole None are =
    let digits = fraction_text (value_of negative whole []) in
    let empty : length digits ≡ 0 = ap length (fraction_text-read negative whole [] are) in
    ap (λ b. cond b None (Some (filled_up 0 digits))) (eq-eqb (length digits) 0 empty)
shown_fraction-read negative whole (Some behind) are =
    ap (λ digits. Some (filled_up (length behind) digits)) (fraction_text-read negative whole behind are)
    ∙ ap (λ digits. Some digits) (zeros_back behind)

whole_small : (text : Text) (number : Number) → WasRead text number → whole_of number.value < 2 ^ 64
whole_small text number read =
    let numeral = numeral_of (without_sign text) in
    let same = ap (λ (n : Number). whole_of n.value) read.number_is ∙ whole_of-read (begins_with_minus text) numeral.whole (unwrap_or numeral.fraction []) read.decimal in
    omega (arith, same, read.decimal.fits)

pub shown_as_read : (text : Text) (number : Number) → WasRead text number → shown_fraction number ≡ (numeral_of (without_sign text)).fraction
shown_as_read text number read =
    let numeral = numeral_of (without_sign text) in
    ap shown_fraction read.number_is
    ∙ shown_fraction-read (begins_with_minus text) numeral.whole numeral.fraction read.decimal

-- a number that was read is read again from its text
pub reads_again : (text : Text) (number : Number) → read_number text ≡ Some number → read_number (number_text number) ≡ Some number
reads_again text number e =
    let read = was_read text number e in
    let numeral = numeral_of (without_sign text) in
    let behind = unwrap_or numeral.fraction [] in
    let shown = shown_as_read text number read in
    let value = value_of (begins_with_minus text) numeral.whole behind in
    let value_is : number.value ≡ value = ap (λ (n : Number). n.value) read.number_is in
    reads_its_text number (whole_small text number read)
    ∙ ap (λ f. cond (nat_le (length (unwrap_or f [])) 18) (Some (number_read f number.value)) None) shown
    ∙ ap (λ b. cond b (Some (number_read numeral.fraction number.value)) None) (le-leb (length behind) 18 read.decimal.short)
    ∙ ap (λ v. Some (number_read numeral.fraction v)) value_is
    ∙ ap (λ n. Some n) (sym read.number_is)

-- zeros at the front are worth nothing
pub worth-without_front_zeros : (ds : Text) → digits_worth (without_front_zeros ds) ≡ digits_worth ds
worth-without_front_zeros [] = refl
worth-without_front_zeros (c ∷ cs) =
    ⊎_elim
    (λ (e : c ≡ 48). ap (λ b. digits_worth (cond b (without_front_zeros cs) (c ∷ cs))) (eq-eqb c 48 e) ∙ worth-without_front_zeros cs ∙ (let times : (c - 48) * 10 ^ length cs ≡ 0 * 10 ^ length cs = ap (λ d. (d - 48) * 10 ^ length cs) e in omega (arith, times)))
    (λ (other : c ≢ 48). ap (λ b. digits_worth (cond b (without_front_zeros cs) (c ∷ cs))) (ne_eqb c 48 other))
    (cases_eq c 48)

-- what is left are digits, of which the first isn't 0
pub record IsTrimmed (ds : Text) : Type 0 where
  pub digits : list_all is_ascii_digit ds ≡ true
  pub first : 0 < length ds → get_or ds 0 0 ≢ 48

pub trimmed : (ds : Text) → list_all is_ascii_digit ds ≡ true → IsTrimmed (without_front_zeros ds)
trimmed [] digits = record { digits = refl; first = λ some. absurd (omega (arith, some)) }
trimmed (c ∷ cs) digits =
    let parts = and_parts (is_ascii_digit c) (list_all is_ascii_digit cs) digits in
    ⊎_elim
    (λ (e : c ≡ 48). subst (λ b. IsTrimmed (cond b (without_front_zeros cs) (c ∷ cs))) (sym (eq-eqb c 48 e)) (trimmed cs parts.1))
    (λ (other : c ≢ 48). subst (λ b. IsTrimmed (cond b (without_front_zeros cs) (c ∷ cs))) (sym (ne_eqb c 48 other)) (record { digits = digits; first = λ _. other }))
    (cases_eq c 48)

decimal_of_trimmed : (ds : Text) → IsTrimmed ds → digits_worth ds < 2 ^ 64 → decimal (digits_worth ds) ≡ cond (length ds == 0) (48 ∷ []) ds
decimal_of_trimmed [] is small = decimal_digit 0 (omega arith)
decimal_of_trimmed (c ∷ cs) is small =
    decimal-digits_value by_places (c ∷ cs) is.digits (omega arith) (λ zero_first. absurd (is.first (omega arith) zero_first)) small
    ∙ ap (λ b. cond b (48 ∷ []) (c ∷ cs)) (sym (ne_eqb (length (c ∷ cs)) 0 (λ e. absurd (omega (arith, e)))))

-- a whole part is written without the zeros at its front
pub decimal-worth : (ds : Text) → list_all is_ascii_digit ds ≡ true → digits_worth ds < 2 ^ 64 → decimal (digits_worth ds) ≡ tidied_whole ds
decimal-worth ds digits small =
    let same = worth-without_front_zeros ds in
    ap decimal (sym same) ∙ decimal_of_trimmed (without_front_zeros ds) (trimmed ds digits) (omega (arith, same, small))

-- a minus is written before what is below zero
minus_written : (negative : Bool) (units worth : ℕ) → (0 < worth → 0 < units) → (worth ≡ 0 → units ≡ 0) → sign_text (sign_shown (signed negative units)) ≡ cond (negative && nat_lt 0 worth) (45 ∷ []) []
minus_written false units worth some none = refl
minus_written true zero worth some none =
    ap (λ b. cond b (45 ∷ []) []) (sym (le-ltb 0 worth (⊎_elim (λ (low : 0 < worth). absurd (omega (arith, some low))) (λ (high : worth ≤ 0). high) (cases_lt 0 worth))))
minus_written true (suc n) worth some none =
    ap (λ b. cond b (45 ∷ []) []) (sym (lt-ltb 0 worth (⊎_elim (λ (low : 0 < worth). low) (λ (high : worth ≤ 0). absurd (omega (arith, none (omega (arith, high))))) (cases_lt 0 worth))))

-- the text of a number that was read
pub writes_what_was_read : (text : Text) (number : Number) → read_number text ≡ Some number → number_text number ≡ tidied text
writes_what_was_read text number e =
    let read = was_read text number e in
    let numeral = numeral_of (without_sign text) in
    let behind = unwrap_or numeral.fraction [] in
    let negative = begins_with_minus text in
    let value = value_of negative numeral.whole behind in
    let value_is : number.value ≡ value = ap (λ (n : Number). n.value) read.number_is in
    let whole_is : whole_of number.value ≡ digits_worth numeral.whole = ap whole_of value_is ∙ whole_of-read negative numeral.whole behind read.decimal in
    let worth = digits_worth (numeral.whole ++ behind) in
    let places = 10 ^ (18 - length behind) in
    let minus = minus_written negative (units_of numeral.whole behind) worth
    (λ low. omega (arith, low, le-mul_of_pos_right {m = places} worth (one-le-pow (18 - length behind) 10 (omega arith))))
    (λ none. ap (λ n. n * places) none ∙ (let nothing : 0 * places ≡ 0 = omega arith in nothing)) in
    number_text-spelled number
    ∙ ap (λ v. sign_text (sign_shown v) ++ (decimal (whole_of number.value) ++ point_text (shown_fraction number))) value_is
    ∙ ap (λ s. s ++ (decimal (whole_of number.value) ++ point_text (shown_fraction number))) minus
    ∙ ap (λ w. cond (negative && nat_lt 0 worth) (45 ∷ []) [] ++ (decimal w ++ point_text (shown_fraction number))) whole_is
    ∙ ap (λ w. cond (negative && nat_lt 0 worth) (45 ∷ []) [] ++ (w ++ point_text (shown_fraction number))) (decimal-worth numeral.whole read.decimal.whole_digits read.decimal.fits)
    ∙ ap (λ f. cond (negative && nat_lt 0 worth) (45 ∷ []) [] ++ (tidied_whole numeral.whole ++ point_text f)) (shown_as_read text number read)
