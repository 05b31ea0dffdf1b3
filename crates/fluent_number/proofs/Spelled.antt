-- What is spelled is read, and what is read is spelled.
use Rattle.std.proofs.Common.{◌≡◌, ◌≢◌, ⊎_elim, Bool, true, false, cond, not, ◌||◌, nat_lt, ℕ, ◌+◌, [], ◌∷◌, ◌++◌, ◌==◌, refl, sym, ap, ◌∙◌, subst, get_or, length, take, drop, Option, Some, None, option_map, unwrap_or, position, arith, zero-add}
use Rattle.std.specs.List.{position_or_len, list_all}
use Rattle.std.specs.Char.{is_ascii_digit}
use Rattle.std.proofs.lemmas.List.{append_assoc, append-nil, take_at, drop_at, length-append}
use Rattle.std.proofs.lemmas.List.Sums.{split_at_first, prefix_len_stops}
use Rattle.std.proofs.lemmas.Bool.{and_parts, ne_eqb, eqb-true, lt-ltb, le-ltb, ltb-true, cases_eq, not-false}
use Rattle.std.proofs.lemmas.Option.{cond_some, none-some, same_Some}
use Rattle.fluent_number.specs.Decimal.{signed}
use Rattle.fluent_number.specs.Digits.{Text}
use Rattle.fluent_number.specs.Number.{Number}
use Rattle.fluent_number.specs.Reading.{Numeral, parted, is_point, numeral_of, begins_with_minus, without_sign, read_decimal, are_decimal, units_of, number_read, read_number}
use Rattle.fluent_number.specs.Spelling.{Sign, no_sign, plus, minus, sign_text, is_minus, point_text, spelled, Spells}
use Rattle.fluent_number.proofs.Numerals.{AreDecimal, are_decimal_parts, are_decimal_true}
use Rattle.fluent_number.proofs.Zeros.{is_digit}

-- a digit is no sign and no point
pub no_point : (c : ℕ) → is_ascii_digit c ≡ true → is_point c ≡ false
no_point c digit = let range = is_digit c digit in ne_eqb c 46 (λ e. absurd (omega (arith, e, range)))

not_minus : (c : ℕ) → is_ascii_digit c ≡ true → (c == 45) ≡ false
not_minus c digit = let range = is_digit c digit in ne_eqb c 45 (λ e. absurd (omega (arith, e, range)))

not_plus : (c : ℕ) → is_ascii_digit c ≡ true → (c == 43) ≡ false
not_plus c digit = let range = is_digit c digit in ne_eqb c 43 (λ e. absurd (omega (arith, e, range)))

-- the first point is after the digits
first_point-append : (whole rest : Text) → list_all is_ascii_digit whole ≡ true → position_or_len is_point (whole ++ rest) ≡ length whole + position_or_len is_point rest
first_point-append [] rest digits = sym (zero-add (position_or_len is_point rest))
first_point-append (c ∷ cs) rest digits =
    let parts = and_parts (is_ascii_digit c) (list_all is_ascii_digit cs) digits in
    let after = first_point-append cs rest parts.1 in
    ap (λ b. cond (not b) (1 + position_or_len is_point (cs ++ rest)) 0) (no_point c parts.0) ∙ omega (arith, after)

pub numeral_of-digits : (whole : Text) (fraction : Option Text) → list_all is_ascii_digit whole ≡ true → numeral_of (whole ++ point_text fraction) ≡ record { whole = whole; fraction = fraction }
numeral_of-digits whole None digits =
    let place = first_point-append whole [] digits in
    let long = length-append whole [] in
    let none : position is_point (whole ++ []) ≡ None = ap (λ b. cond b (Some (position_or_len is_point (whole ++ []))) None) (le-ltb (position_or_len is_point (whole ++ [])) (length (whole ++ [])) (omega (arith, place, long))) in
    ap (parted (whole ++ [])) none ∙ ap (λ (t : Text). record { whole = t; fraction = None }) (append-nil whole)
numeral_of-digits whole (Some behind) digits =
    let text = whole ++ 46 ∷ behind in
    let place : position_or_len is_point text ≡ length whole = first_point-append whole (46 ∷ behind) digits ∙ omega arith in
    let long = length-append whole (46 ∷ behind) in
    let found : position is_point text ≡ Some (length whole) = ap (λ b. cond b (Some (position_or_len is_point text)) None) (lt-ltb (position_or_len is_point text) (length text) (omega (arith, place, long))) ∙ ap (λ n. Some n) place in
    let front : take (length whole) text ≡ whole = take_at whole (46 ∷ behind) (length whole) refl in
    let back : drop (length whole + 1) text ≡ behind = ap (drop (length whole + 1)) (sym (append_assoc whole (46 ∷ []) behind)) ∙ drop_at (whole ++ 46 ∷ []) behind (length whole + 1) (length-append whole (46 ∷ [])) in
    ap (parted text) found ∙ (λ i. record { whole = front i; fraction = Some (back i) })

-- a text that begins with no sign
unsigned_parts : (c : ℕ) (cs : Text) → (c == 45) ≡ false → (c == 43) ≡ false → (begins_with_minus (c ∷ cs) ≡ false) × (without_sign (c ∷ cs) ≡ c ∷ cs)
unsigned_parts c cs not_45 not_43 =
    (not_45, ap (λ b. cond (b || c == 43) cs (c ∷ cs)) not_45 ∙ ap (λ b. cond b cs (c ∷ cs)) not_43)

pub sign_parts : (sign : Sign) (whole : Text) (fraction : Option Text) → list_all is_ascii_digit whole ≡ true → (begins_with_minus (spelled sign whole fraction) ≡ is_minus sign) × (without_sign (spelled sign whole fraction) ≡ whole ++ point_text fraction)
sign_parts plus whole fraction digits = (refl, refl)
sign_parts minus whole fraction digits = (refl, refl)
sign_parts no_sign [] None digits = (refl, refl)
sign_parts no_sign [] (Some behind) digits = (refl, refl)
sign_parts no_sign (c ∷ cs) fraction digits =
    let first = (and_parts (is_ascii_digit c) (list_all is_ascii_digit cs) digits).0 in
    unsigned_parts c (cs ++ point_text fraction) (not_minus c first) (not_plus c first)

-- a spelled text is taken apart as it was put together
pub read_spelled : (sign : Sign) (whole : Text) (fraction : Option Text) → list_all is_ascii_digit whole ≡ true → read_number (spelled sign whole fraction) ≡ option_map (number_read fraction) (read_decimal (is_minus sign) whole (unwrap_or fraction []))
unfolding read_number
read_spelled sign whole fraction digits =
    let parts = sign_parts sign whole fraction digits in
    let numeral = ap numeral_of parts.1 ∙ numeral_of-digits whole fraction digits in
    ap (λ (n : Numeral). option_map (number_read n.fraction) (read_decimal (begins_with_minus (spelled sign whole fraction)) n.whole (unwrap_or n.fraction []))) numeral
    ∙ ap (λ b. option_map (number_read fraction) (read_decimal b whole (unwrap_or fraction []))) parts.0

-- a text is its sign and what is left without it
pub record HasSign (text : Text) (sign : Sign) : Type 0 where
  pub text_is : text ≡ sign_text sign ++ without_sign text
  pub minus_is : begins_with_minus text ≡ is_minus sign

pub sign_found : (text : Text) → (sign : Sign) × HasSign text sign
sign_found [] = (no_sign, record { text_is = refl; minus_is = refl })
sign_found (c ∷ cs) =
    ⊎_elim
    (λ (e : c ≡ 45). (minus, subst (λ d. HasSign (d ∷ cs) minus) (sym e) (record { text_is = refl; minus_is = refl })))
    (λ (not_45 : c ≢ 45). ⊎_elim
    (λ (e : c ≡ 43). (plus, subst (λ d. HasSign (d ∷ cs) plus) (sym e) (record { text_is = refl; minus_is = refl })))
    (λ (not_43 : c ≢ 43). let parts = unsigned_parts c cs (ne_eqb c 45 not_45) (ne_eqb c 43 not_43) in
    (no_sign, record { text_is = sym parts.1; minus_is = parts.0 }))
    (cases_eq c 43))
    (cases_eq c 45)

-- a text is what stands before the first point, and the rest
parted_back : (text : Text) (found : Bool) → nat_lt (position_or_len is_point text) (length text) ≡ found → (numeral_of text).whole ++ point_text (numeral_of text).fraction ≡ text
parted_back text true e =
    let place = position_or_len is_point text in
    let low = ltb-true place (length text) e in
    let split = split_at_first is_point text 0 low in
    let point : get_or text place 0 ≡ 46 = eqb-true (get_or text place 0) 46 (not-false (is_point (get_or text place 0)) (prefix_len_stops (λ c. not (is_point c)) text 0 low)) in
    let numeral : numeral_of text ≡ record { whole = take place text; fraction = Some (drop (place + 1) text) } = ap (λ b. parted text (cond b (Some place) None)) e in
    ap (λ (n : Numeral). n.whole ++ point_text n.fraction) numeral
    ∙ ap (λ c. take place text ++ c ∷ drop (place + 1) text) (sym point)
    ∙ sym split
parted_back text false e =
    ap (λ b. (parted text (cond b (Some (position_or_len is_point text)) None)).whole ++ point_text (parted text (cond b (Some (position_or_len is_point text)) None)).fraction) e
    ∙ append-nil text

pub numeral_back : (text : Text) → (numeral_of text).whole ++ point_text (numeral_of text).fraction ≡ text
numeral_back text = parted_back text (nat_lt (position_or_len is_point text) (length text)) refl

option_map_some : {A B : Type 0} (f : A → B) (found : Option A) (y : B) → option_map f found ≡ Some y → (x : A) × (found ≡ Some x) × (f x ≡ y)
option_map_some f None y e = absurd (none-some y e)
option_map_some f (Some x) y e = (x, refl, same_Some (f x) y e)

-- the digits of a text that was read, and the number that they make
pub record WasRead (text : Text) (number : Number) : Type 0 where
  pub decimal : AreDecimal (numeral_of (without_sign text)).whole (unwrap_or (numeral_of (without_sign text)).fraction [])
  pub number_is : number ≡ number_read (numeral_of (without_sign text)).fraction (signed (begins_with_minus text) (units_of (numeral_of (without_sign text)).whole (unwrap_or (numeral_of (without_sign text)).fraction [])))

pub was_read : (text : Text) (number : Number) → read_number text ≡ Some number → WasRead text number
unfolding read_number
was_read text number e =
    let numeral = numeral_of (without_sign text) in
    let behind = unwrap_or numeral.fraction [] in
    let units = signed (begins_with_minus text) (units_of numeral.whole behind) in
    let found = option_map_some (number_read numeral.fraction) (read_decimal (begins_with_minus text) numeral.whole behind) number e in
    let chosen = cond_some (are_decimal numeral.whole behind) units found.0 found.1 in
    record {
      decimal = are_decimal_parts numeral.whole behind chosen.0;
      number_is = sym found.2 ∙ ap (number_read numeral.fraction) (sym chosen.1);
    }

pub spells_what_was_read : (text : Text) (number : Number) → read_number text ≡ Some number → Spells text number
spells_what_was_read text number e =
    let read = was_read text number e in
    let sign = sign_found text in
    let numeral = numeral_of (without_sign text) in
    let behind = unwrap_or numeral.fraction [] in
    record {
      sign = sign.0;
      whole = numeral.whole;
      fraction = numeral.fraction;
      text_is = sign.1.text_is ∙ ap (λ rest. sign_text sign.0 ++ rest) (sym (numeral_back (without_sign text)));
      whole_digits = read.decimal.whole_digits;
      fraction_digits = read.decimal.digits_behind;
      some_digit = read.decimal.some;
      short_fraction = read.decimal.short;
      small_whole = read.decimal.fits;
      number_is = read.number_is ∙ ap (λ b. number_read numeral.fraction (signed b (units_of numeral.whole behind))) sign.1.minus_is;
    }

pub reads_what_is_spelled : (text : Text) (number : Number) → Spells text number → read_number text ≡ Some number
reads_what_is_spelled text number h =
    let behind = unwrap_or h.fraction [] in
    let are : AreDecimal h.whole behind = record { whole_digits = h.whole_digits; digits_behind = h.fraction_digits; some = h.some_digit; short = h.short_fraction; fits = h.small_whole } in
    ap read_number h.text_is
    ∙ read_spelled h.sign h.whole h.fraction h.whole_digits
    ∙ ap (λ b. option_map (number_read h.fraction) (cond b (Some (signed (is_minus h.sign) (units_of h.whole behind))) None)) (are_decimal_true h.whole behind are)
    ∙ ap (λ n. Some n) (sym h.number_is)
