-- The operands of a number against the digits of its text.
use Rattle.std.proofs.Common.{◌≡◌, ℕ, ◌+◌, ◌-◌, ◌^◌, ◌<◌, ◌≤◌, [], ◌∷◌, ◌++◌, refl, sym, ap, ◌∙◌, subst, length, take, min, max, cond, ◌&&◌, ◌==◌, is_none, decimal, Option, Some, None, unwrap_or, arith}
use Rattle.std.proofs.lemmas.List.{append_assoc, length-append, length-replicate, take_at, replicate-append-replicate}
use Rattle.std.proofs.lemmas.Bool.{ne_eqb}
use Rattle.std.proofs.lemmas.Fmt.{digits_decimal, digits_value-decimal}
use Rattle.fluent_number.specs.Decimal.{whole_of, fraction_of}
use Rattle.fluent_number.specs.Digits.{Text, digits_worth, last_digits, without_end_zeros}
use Rattle.fluent_number.specs.Laws.{shown_fraction, digits_behind, AgreesWithText}
use Rattle.fluent_number.specs.Number.{Number}
use Rattle.fluent_number.specs.Operands.{operands_of, digits_with_zeros}
use Rattle.fluent_number.specs.Reading.{Numeral, numeral_of, without_sign}
use Rattle.fluent_number.specs.Text.{number_text, fraction_text, filled_up}
use Rattle.fluent_number.proofs.LastDigits.{take-without_end_zeros}
use Rattle.fluent_number.proofs.Numerals.{by_places}
use Rattle.fluent_number.proofs.Shown.{sign_shown, number_text-spelled, is_shown, eighteen}
use Rattle.fluent_number.proofs.Spelled.{sign_parts, numeral_of-digits}
use Rattle.fluent_number.proofs.Zeros.{zeros, without_end_zeros-zeros, without_end_zeros-twice}

-- the text of a number parted at its point
pub numeral_shown : (number : Number) → whole_of number.value < 2 ^ 64 → numeral_of (without_sign (number_text number)) ≡ record { whole = decimal (whole_of number.value); fraction = shown_fraction number }
numeral_shown number small =
    let whole = decimal (whole_of number.value) in
    let digits = digits_decimal by_places (whole_of number.value) small in
    ap (λ t. numeral_of (without_sign t)) (number_text-spelled number)
    ∙ ap numeral_of (sign_parts (sign_shown number.value) whole (shown_fraction number) digits).1
    ∙ numeral_of-digits whole (shown_fraction number) digits

-- this many of digits and zeros after them
take-parted : (ds : Text) (front back n : ℕ) → length ds + front ≡ n → take n (ds ++ zeros (front + back)) ≡ ds ++ zeros front
take-parted ds front back n total =
    let joined = length-append ds (zeros front) in
    let count = length-replicate {A = ℕ} front 48 in
    ap (λ z. take n (ds ++ z)) (sym (replicate-append-replicate front back 48))
    ∙ ap (take n) (sym (append_assoc ds (zeros front) (zeros back)))
    ∙ take_at (ds ++ zeros front) (zeros back) n (omega (arith, joined, count, total))

take-zeros : (ds : Text) (k n : ℕ) → length ds ≤ n → n ≤ length ds + k → take n (ds ++ zeros k) ≡ ds ++ zeros (n - length ds)
take-zeros ds k n low high =
    let parted = take-parted ds (n - length ds) (k - (n - length ds)) n (omega (arith, low)) in
    subst (λ m. take n (ds ++ zeros m) ≡ ds ++ zeros (n - length ds)) (omega (arith, low, high)) parted

-- how many digits are shown
filled_length : (least : ℕ) (digits : Text) → length (filled_up least digits) ≡ max (length digits) least
filled_length least digits =
    length-append digits (zeros (least - length digits))
    ∙ ap (λ n. length digits + n) (length-replicate {A = ℕ} (least - length digits) 48)
    ∙ omega arith

shown_length : (least : Option ℕ) (digits : Text) → length (unwrap_or (cond (is_none least && length digits == 0) None (Some (filled_up (unwrap_or least 0) digits))) []) ≡ max (length digits) (unwrap_or least 0)
shown_length None [] = refl
shown_length None (c ∷ cs) =
    ap (λ b. length (unwrap_or (cond b None (Some (filled_up 0 (c ∷ cs)))) [])) (ne_eqb (length (c ∷ cs)) 0 (λ e. absurd (omega (arith, e))))
    ∙ filled_length 0 (c ∷ cs)
shown_length (Some m) digits = filled_length m digits

whole_operand : (number : Number) → (operands_of number).i ≡ whole_of number.value
unfolding operands_of
whole_operand number = refl

-- the operands are those of the shown digits
shown_operands : (number : Number) (behind : Text) → behind ≡ unwrap_or (shown_fraction number) [] → (operands_of number).v ≡ min (length behind) 18 × (operands_of number).w ≡ length (without_end_zeros behind) × (operands_of number).f ≡ digits_worth (take (operands_of number).v behind) × (operands_of number).t ≡ digits_worth (without_end_zeros behind)
unfolding operands_of
shown_operands number behind same =
    let digits = fraction_text number.value in
    let least = number.options.minimum_fraction_digits in
    let shown = is_shown number in
    let behind_is : behind ≡ digits ++ zeros shown.count = same ∙ shown.shown_is in
    let long : length behind ≡ max (length digits) (unwrap_or least 0) = ap length same ∙ shown_length least digits in
    let counted : length behind ≡ length digits + shown.count = ap length behind_is ∙ length-append digits (zeros shown.count) ∙ ap (λ n. length digits + n) (length-replicate {A = ℕ} shown.count 48) in
    let all = eighteen number.value in
    let significant : without_end_zeros behind ≡ digits = ap without_end_zeros behind_is ∙ without_end_zeros-zeros digits shown.count ∙ without_end_zeros-twice (last_digits 18 (fraction_of number.value)) in
    let v = digits_with_zeros number in
    let v_is : v ≡ min (length behind) 18 = omega (arith, long, all.0) in
    let low : length digits ≤ v = omega arith in
    let of_behind : take v behind ≡ digits ++ zeros (v - length digits) = ap (take v) behind_is ∙ take-zeros digits shown.count v low (omega (arith, v_is, counted)) in
    let of_all : take v (last_digits 18 (fraction_of number.value)) ≡ digits ++ zeros (v - length digits) = ap (take v) all.1 ∙ take-zeros digits (18 - length digits) v low (omega (arith, v_is, all.0)) in (
      v_is,
      ap length (sym significant),
      ap digits_worth (of_all ∙ sym of_behind),
      ap digits_worth (take-without_end_zeros (last_digits 18 (fraction_of number.value)) ∙ sym significant),
    )

pub operands_agree : (number : Number) → whole_of number.value < 2 ^ 64 → AgreesWithText number
operands_agree number small =
    let numeral = numeral_shown number small in
    let behind : digits_behind number ≡ unwrap_or (shown_fraction number) [] = ap (λ (n : Numeral). unwrap_or n.fraction []) numeral in
    let parts = shown_operands number (digits_behind number) behind in
    record {
      i = whole_operand number ∙ sym (ap (λ (n : Numeral). digits_worth n.whole) numeral ∙ digits_value-decimal by_places (whole_of number.value) small);
      v = parts.0;
      w = parts.1;
      f = parts.2;
      t = parts.3;
    }
