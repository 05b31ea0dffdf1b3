-- The digits at the front of a text, and its parts round the point.
use Rattle.std.proofs.Common.{◌≡◌, true, cond, ℕ, ◌+◌, ◌-◌, ◌<◌, ◌≤◌, [], ◌∷◌, ◌++◌, refl, sym, ap, ◌∙◌, length, take, drop, Option, Some, None, zero-add, arith}
use Rattle.std.specs.Char.{is_ascii_digit}
use Rattle.std.specs.List.{list_all, prefix_len}
use Rattle.std.proofs.lemmas.List.{take_at, drop_at, take-append-drop, get_or-take, length-take-le, take_all, append-nil, take_rest}
use Rattle.std.proofs.lemmas.List.Sums.{prefix_len_passes, prefix_len-le-length, list_all-from_AllPass}
use Rattle.std.proofs.lemmas.Bool.{and_parts}
use Rattle.fluent_number.specs.Digits.{Text, digits_worth}
use Rattle.fluent_number.specs.Reading.{Numeral, numeral_of}
use Rattle.fluent_number.specs.Spelling.{point_text}
use Rattle.fluent_number.proofs.Spelled.{numeral_of-digits, numeral_back}

-- how many digits stand at the front
abbrev pub leading : Text → ℕ
leading text = prefix_len is_ascii_digit text

leading-append : (whole rest : Text) → list_all is_ascii_digit whole ≡ true → leading (whole ++ rest) ≡ length whole + leading rest
leading-append [] rest digits = sym (zero-add (leading rest))
leading-append (c ∷ cs) rest digits =
    let parts = and_parts (is_ascii_digit c) (list_all is_ascii_digit cs) digits in
    let after = leading-append cs rest parts.1 in
    ap (λ b. cond b (1 + leading (cs ++ rest)) 0) parts.0 ∙ omega (arith, after)

leading-point_text : (fraction : Option Text) → leading (point_text fraction) ≡ 0
leading-point_text None = refl
leading-point_text (Some behind) = refl

-- digits at the front are digits
pub front_digits : (text : Text) → list_all is_ascii_digit (take (leading text) text) ≡ true
front_digits text =
    let n = leading text in
    let long = length-take-le n text (prefix_len-le-length is_ascii_digit text) in
    list_all-from_AllPass is_ascii_digit (take n text) (λ k d low.
    let less : k < n = omega (arith, low, long) in
    ap is_ascii_digit (get_or-take n text k d less) ∙ prefix_len_passes is_ascii_digit text k d less)

-- where a point or nothing is after them, they are the whole part
pub numeral_of-front : (text : Text) (fraction : Option Text) → drop (leading text) text ≡ point_text fraction → numeral_of text ≡ record { whole = take (leading text) text; fraction = fraction }
numeral_of-front text fraction rest =
    ap numeral_of (sym (take-append-drop (leading text) text) ∙ ap (λ r. take (leading text) text ++ r) rest)
    ∙ numeral_of-digits (take (leading text) text) fraction (front_digits text)

-- where the whole part is digits, they are it, and a point or nothing is after them
pub record IsFront (text : Text) : Type 0 where
  pub front : take (leading text) text ≡ (numeral_of text).whole
  pub rest : drop (leading text) text ≡ point_text (numeral_of text).fraction

pub is_front : (text : Text) → list_all is_ascii_digit (numeral_of text).whole ≡ true → IsFront text
is_front text digits =
    let numeral = numeral_of text in
    let back = numeral_back text in
    let none = leading-point_text numeral.fraction in
    let after = leading-append numeral.whole (point_text numeral.fraction) digits in
    let count : length numeral.whole ≡ leading text = sym (ap leading (sym back) ∙ after ∙ omega (arith, none)) in
    record {
      front = ap (take (leading text)) (sym back) ∙ take_at numeral.whole (point_text numeral.fraction) (leading text) count;
      rest = ap (drop (leading text)) (sym back) ∙ drop_at numeral.whole (point_text numeral.fraction) (leading text) count;
    }

-- a text is digits where all of it stands at the front
pub record AllLeading (text : Text) : Type 0 where
  pub digits : list_all is_ascii_digit text ≡ true
  pub count : leading text ≡ length text
  pub front : take (leading text) text ≡ text

pub all_leading : (text : Text) → length text ≤ leading text → AllLeading text
all_leading text high =
    let front = take_all (leading text) text high in
    let within = prefix_len-le-length is_ascii_digit text in
    record {
      digits = sym (ap (list_all is_ascii_digit) front) ∙ front_digits text;
      count = omega (arith, high, within);
      front = front;
    }

pub not_all_leading : (text : Text) → leading text < length text → list_all is_ascii_digit text ≡ true → ⊥
not_all_leading text short digits =
    let all = leading-append text [] digits in
    let same = ap leading (append-nil text) in
    omega (arith, all, same, short)

-- what is after the digits at the front, as a slice
rest_of : (text : Text) (count : ℕ) → count ≡ leading text → drop (leading text) text ≡ take (length text - count) (drop count text)
rest_of text count same = ap (λ n. drop n text) (sym same) ∙ sym (take_rest text count)

-- the parts that were found
pub record IsNumeral (text : Text) (count worth : ℕ) (fraction : Option Text) : Type 0 where
  pub digits : list_all is_ascii_digit (numeral_of text).whole ≡ true
  pub count_is : count ≡ length (numeral_of text).whole
  pub worth_is : worth ≡ digits_worth (numeral_of text).whole
  pub fraction_is : fraction ≡ (numeral_of text).fraction

pub split_is : (text : Text) (count worth : ℕ) (fraction : Option Text) → count ≡ leading text → worth ≡ digits_worth (take (leading text) text) → take (length text - count) (drop count text) ≡ point_text fraction → IsNumeral text count worth fraction
split_is text count worth fraction count_is worth_is rest =
    let numeral = numeral_of-front text fraction (rest_of text count count_is ∙ rest) in
    let whole = ap (λ (n : Numeral). n.whole) numeral in
    let long = length-take-le (leading text) text (prefix_len-le-length is_ascii_digit text) in
    record {
      digits = ap (list_all is_ascii_digit) whole ∙ front_digits text;
      count_is = count_is ∙ sym (ap length whole ∙ long);
      worth_is = worth_is ∙ sym (ap digits_worth whole);
      fraction_is = sym (ap (λ (n : Numeral). n.fraction) numeral);
    }

pub no_split : (text : Text) (count : ℕ) → count ≡ leading text → ((fraction : Option Text) → take (length text - count) (drop count text) ≡ point_text fraction → ⊥) → list_all is_ascii_digit (numeral_of text).whole ≡ true → ⊥
no_split text count count_is other digits =
    other (numeral_of text).fraction (sym (rest_of text count count_is) ∙ (is_front text digits).rest)
