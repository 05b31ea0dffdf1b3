-- When a numeral is a decimal, and what its fraction is worth.
use Rattle.std.proofs.Common.{◌≡◌, Bool, true, cond, ◌&&◌, nat_lt, nat_le, ℕ, ◌+◌, ◌-◌, ◌*◌, ◌^◌, ◌<◌, ◌≤◌, [], ◌++◌, sym, ap, ◌∙◌, length, Option, Some, None, IsSome, IfSome, option_map, unwrap_or, ℤ, arith, rules}
use Rattle.std.proofs.lemmas.Str.Parse.{IsNumeralModel, numerals_by_weight, digits_value_short}
use Rattle.std.proofs.lemmas.List.{length-append}
use Rattle.std.proofs.lemmas.List.Folds.{list_all-append}
use Rattle.std.proofs.lemmas.Nat.{pow-add}
use Rattle.std.proofs.Math.Nat.{one-le-pow, mul-le-mul_right}
use Rattle.std.proofs.lemmas.Bool.{and_from, and_parts, lt-ltb, le-leb, ltb-true, leb-true, false_from_ne_true}
use Rattle.std.specs.Char.{is_ascii_digit}
use Rattle.std.specs.List.{list_all}
use Rattle.fluent_number.specs.Digits.{Text, digits_worth}
use Rattle.fluent_number.specs.Options.{Options, options_of}
use Rattle.fluent_number.specs.Number.{number_of}
use Rattle.fluent_number.specs.declared.number.FluentNumber.{FluentNumber}
use Rattle.fluent_number.specs.declared.options.FluentNumberOptions.{FluentNumberOptions}
use Rattle.fluent_number.proofs.Worth.{worth-append}
use Rattle.fluent_number.specs.Reading.{are_decimal, units_of, read_decimal, read_number, number_read, numeral_of, without_sign, begins_with_minus}
use Rattle.fluent_number.specs.Decimal.{signed, units_per_one}

-- these words are std's, by another road
pub by_places : IsNumeralModel (λ s. list_all is_ascii_digit s ≡ true) digits_worth
by_places = numerals_by_weight _ (search rules) digits_worth (search rules)

pub digits_worth_lt : (s : Text) → list_all is_ascii_digit s ≡ true → digits_worth s < 10 ^ length s
digits_worth_lt s digits = digits_value_short by_places s (length s) digits (omega arith)

pub power_split : (n : ℕ) → n ≤ 18 → 10 ^ n * 10 ^ (18 - n) ≡ 10 ^ 18
power_split n short = sym (pow-add 10 n (18 - n)) ∙ ap (λ k. 10 ^ k) (let e : n + (18 - n) ≡ 18 = omega arith in e)

-- digits after a point are less than one
pub fraction_lt : (s : Text) → list_all is_ascii_digit s ≡ true → length s ≤ 18 → digits_worth s * 10 ^ (18 - length s) < 10 ^ 18
fraction_lt s digits short =
    let positive = one-le-pow (18 - length s) 10 (omega arith) in
    let below : digits_worth s + 1 ≤ 10 ^ length s = omega (arith, digits_worth_lt s digits) in
    omega (arith, mul-le-mul_right (10 ^ (18 - length s)) below, power_split (length s) short, positive)

-- digits before and after a point are a decimal
pub record AreDecimal (whole behind : Text) : Type 0 where
  pub whole_digits : list_all is_ascii_digit whole ≡ true
  pub digits_behind : list_all is_ascii_digit behind ≡ true
  pub some : 0 < length whole + length behind
  pub short : length behind ≤ 18
  pub fits : digits_worth whole < 2 ^ 64

pub are_decimal_true : (whole behind : Text) → AreDecimal whole behind → are_decimal whole behind ≡ true
are_decimal_true whole behind h =
    and_from _ _ (list_all-append is_ascii_digit whole behind ∙ and_from _ _ h.whole_digits h.digits_behind)
    (and_from _ _ (lt-ltb _ _ (omega (arith, length-append whole behind, h.some)))
    (and_from _ _ (le-leb _ _ h.short) (lt-ltb _ _ h.fits)))

pub are_decimal_parts : (whole behind : Text) → are_decimal whole behind ≡ true → AreDecimal whole behind
are_decimal_parts whole behind e =
    let all = and_parts (list_all is_ascii_digit (whole ++ behind)) (nat_lt 0 (length (whole ++ behind)) && (nat_le (length behind) 18 && nat_lt (digits_worth whole) (2 ^ 64))) e in
    let digits = and_parts (list_all is_ascii_digit whole) (list_all is_ascii_digit behind) (sym (list_all-append is_ascii_digit whole behind) ∙ all.0) in
    let rest = and_parts (nat_lt 0 (length (whole ++ behind))) (nat_le (length behind) 18 && nat_lt (digits_worth whole) (2 ^ 64)) all.1 in
    let last = and_parts (nat_le (length behind) 18) (nat_lt (digits_worth whole) (2 ^ 64)) rest.1 in
    record {
      whole_digits = digits.0;
      digits_behind = digits.1;
      some = omega (arith, length-append whole behind, ltb-true 0 (length (whole ++ behind)) rest.0);
      short = leb-true (length behind) 18 last.0;
      fits = ltb-true (digits_worth whole) (2 ^ 64) last.1;
    }

pub read_decimal_none : (negative : Bool) (whole behind : Text) → (AreDecimal whole behind → ⊥) → read_decimal negative whole behind ≡ None
read_decimal_none negative whole behind fails =
    ap (λ b. cond b (Some (signed negative (units_of whole behind))) None)
    (false_from_ne_true (are_decimal whole behind) (λ e. fails (are_decimal_parts whole behind e)))

-- the units of a decimal's parts, put together
pub units_parted : (whole behind : Text) → length behind ≤ 18 → units_of whole behind ≡ digits_worth whole * 10 ^ 18 + digits_worth behind * 10 ^ (18 - length behind)
units_parted whole behind short =
    let n = length behind in
    let joined = worth-append whole behind in
    let scaled : units_of whole behind ≡ (digits_worth whole * 10 ^ n + digits_worth behind) * 10 ^ (18 - n) = ap (λ k. k * 10 ^ (18 - n)) joined in
    let power : digits_worth whole * (10 ^ n * 10 ^ (18 - n)) ≡ digits_worth whole * 10 ^ 18 = ap (λ k. digits_worth whole * k) (power_split n short) in
    omega (arith, scaled, power)

pub read_decimal_some : (negative : Bool) (whole behind : Text) → AreDecimal whole behind → read_decimal negative whole behind ≡ Some (signed negative (digits_worth whole * 10 ^ 18 + digits_worth behind * 10 ^ (18 - length behind)))
read_decimal_some negative whole behind h =
    ap (λ b. cond b (Some (signed negative (units_of whole behind))) None) (are_decimal_true whole behind h)
    ∙ ap (λ n. Some (signed negative n)) (units_parted whole behind h.short)

-- a value that is there, and is known
pub some_is : {A : Type 0} (found : Option A) (v : A) → IsSome found → IfSome found (λ x. x ≡ v) → found ≡ Some v
some_is None v there is = absurd (search (rules, there))
some_is (Some x) v there is = ap (λ y. Some y) is

-- a text whose numeral is no decimal is no number
pub read_fails : (text unsigned : Text) → unsigned ≡ without_sign text → (AreDecimal (numeral_of unsigned).whole (unwrap_or (numeral_of unsigned).fraction []) → ⊥) → None ≡ read_number text
unfolding read_number
read_fails text unsigned same fails =
    let numeral = numeral_of unsigned in
    let behind = unwrap_or numeral.fraction [] in
    sym (ap (λ u. option_map (number_read (numeral_of u).fraction) (read_decimal (begins_with_minus text) (numeral_of u).whole (unwrap_or (numeral_of u).fraction []))) (sym same)
    ∙ ap (option_map (number_read numeral.fraction)) (read_decimal_none (begins_with_minus text) numeral.whole behind fails))

-- a text whose numeral is a decimal is that number
pub read_succeeds : (text unsigned : Text) (negative : Bool) (value : ℤ) → unsigned ≡ without_sign text → negative ≡ begins_with_minus text → AreDecimal (numeral_of unsigned).whole (unwrap_or (numeral_of unsigned).fraction []) → value ≡ signed negative (digits_worth (numeral_of unsigned).whole * 10 ^ 18 + digits_worth (unwrap_or (numeral_of unsigned).fraction []) * 10 ^ (18 - length (unwrap_or (numeral_of unsigned).fraction []))) → Some (number_read (numeral_of unsigned).fraction value) ≡ read_number text
unfolding read_number
read_succeeds text unsigned negative value same minus are value_is =
    let numeral = numeral_of unsigned in
    let behind = unwrap_or numeral.fraction [] in
    sym (ap (λ u. option_map (number_read (numeral_of u).fraction) (read_decimal (begins_with_minus text) (numeral_of u).whole (unwrap_or (numeral_of u).fraction []))) (sym same)
    ∙ ap (λ b. option_map (number_read numeral.fraction) (read_decimal b numeral.whole behind)) (sym minus)
    ∙ ap (option_map (number_read numeral.fraction)) (read_decimal_some negative numeral.whole behind are ∙ ap (λ v. Some v) (sym value_is)))

-- a number made of its parts, of which the options are known
pub number_made : (number : FluentNumber) (value : ℤ) (options : FluentNumberOptions) (seen : Options) → number.value ≡ value → number.options ≡ options → options_of options ≡ seen → number_of number ≡ record { value = value; options = seen }
number_made number value options seen value_is options_is seen_is =
    λ i. record { value = value_is i; options = (ap options_of options_is ∙ seen_is) i }

-- the units of a fraction are less than one
pub units_lt : (behind : Text) (units : ℕ) → (list_all is_ascii_digit behind ≡ true) × (length behind ≤ 18) → units ≡ digits_worth behind * 10 ^ (18 - length behind) → units < units_per_one
units_lt behind units are same =
    let small = fraction_lt behind are.0 are.1 in omega (arith, small, same)

-- what was found of a text's numeral is a decimal
pub are_found : (unsigned behind : Text) (count whole : ℕ) → list_all is_ascii_digit (numeral_of unsigned).whole ≡ true → count ≡ length (numeral_of unsigned).whole → whole ≡ digits_worth (numeral_of unsigned).whole → whole < 2 ^ 64 → behind ≡ unwrap_or (numeral_of unsigned).fraction [] → (list_all is_ascii_digit behind ≡ true) × (length behind ≤ 18) → 0 < count + length behind → AreDecimal (numeral_of unsigned).whole (unwrap_or (numeral_of unsigned).fraction [])
are_found unsigned behind count whole digits count_is whole_is fits behind_is are some =
    let long = ap length behind_is in
    record {
      whole_digits = digits;
      digits_behind = sym (ap (list_all is_ascii_digit) behind_is) ∙ are.0;
      some = omega (arith, count_is, long, some);
      short = omega (arith, long, are.1);
      fits = omega (arith, whole_is, fits);
    }

-- the value that `from_parts` gives of it
pub value_found : (unsigned behind : Text) (negative : Bool) (whole units : ℕ) (value : ℤ) → whole ≡ digits_worth (numeral_of unsigned).whole → behind ≡ unwrap_or (numeral_of unsigned).fraction [] → units ≡ digits_worth behind * 10 ^ (18 - length behind) → value ≡ signed negative (whole * units_per_one + units) → value ≡ signed negative (digits_worth (numeral_of unsigned).whole * 10 ^ 18 + digits_worth (unwrap_or (numeral_of unsigned).fraction []) * 10 ^ (18 - length (unwrap_or (numeral_of unsigned).fraction [])))
value_found unsigned behind negative whole units value whole_is behind_is units_is value_is =
    value_is ∙ ap (λ w. signed negative (w * 10 ^ 18 + units)) whole_is
    ∙ ap (λ u. signed negative (digits_worth (numeral_of unsigned).whole * 10 ^ 18 + u)) (units_is ∙ ap (λ b. digits_worth b * 10 ^ (18 - length b)) behind_is)
