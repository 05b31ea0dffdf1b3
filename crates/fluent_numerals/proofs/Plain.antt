-- Few digits of a whole number are written as they are.
use Rattle.std.proofs.Common.{◌≡◌, ◌∙◌, ap, sym, refl, subst, ℕ, zero, suc, ◌+◌, ◌-◌, ◌/◌, ◌%◌, ◌^◌, ◌<◌, ◌≤◌, Bool, true, false, not, nat_eq, List, [], ◌∷◌, ◌++◌, None, length, decimal, append-nil, unsigned_abs, arith}
use Rattle.std.specs.Char.{encode_utf8, is_ascii_digit}
use Rattle.std.specs.Cmp.Lexicographic.{pointwise, same_text}
use Rattle.std.specs.List.{list_all}
use Rattle.std.proofs.Math.Bool.{and-false}
use Rattle.std.proofs.lemmas.Bool.{and_parts, lt-leb, not-false}
use Rattle.std.proofs.lemmas.Fmt.{decimal_nonempty, digits_decimal, length-decimal-le}
use Rattle.fluent_number.specs.Decimal.{is_below_zero, whole_of, fraction_of}
use Rattle.fluent_number.specs.Number.{Number}
use Rattle.fluent_number.specs.Options.{Options}
use Rattle.fluent_number.specs.Text.{number_text}
use Rattle.fluent_number.proofs.Numerals.{by_places}
use Rattle.fluent_number.proofs.Zeros.{is_digit}
use Rattle.fluent_value.proofs.Digits.{bare-text}
use Rattle.fluent_numerals.specs.Digits.{latn}
use Rattle.fluent_numerals.specs.Forms.{Pattern, Form, Forms}
use Rattle.fluent_numerals.specs.Lookup.{Locale}
use Rattle.fluent_numerals.specs.Plain.{EndsInThreeDigits, IsBare, WritesPlainlyBelow}
use Rattle.fluent_numerals.specs.Rounding.{by_fraction, least_fraction_digits, most_fraction_digits, rounded}
use Rattle.fluent_numerals.specs.Tagged.{Text}
use Rattle.fluent_numerals.specs.Text.{affix_text, grouped, integer_text, native, numeral_text, number_layout, text_by, text_of_parts, whole_text}
use Rattle.fluent_numerals.proofs.Steps.{padded_enough, small_power, whole_shown}

native_digit : (d : ℕ) → d < 10 → native latn (48 + d) ≡ (48 + d) ∷ []
unfolding encode_utf8
native_digit zero h = refl
native_digit (suc zero) h = refl
native_digit (suc (suc zero)) h = refl
native_digit (suc (suc (suc zero))) h = refl
native_digit (suc (suc (suc (suc zero)))) h = refl
native_digit (suc (suc (suc (suc (suc zero))))) h = refl
native_digit (suc (suc (suc (suc (suc (suc zero)))))) h = refl
native_digit (suc (suc (suc (suc (suc (suc (suc zero))))))) h = refl
native_digit (suc (suc (suc (suc (suc (suc (suc (suc zero)))))))) h = refl
native_digit (suc (suc (suc (suc (suc (suc (suc (suc (suc zero))))))))) h = refl
native_digit (suc (suc (suc (suc (suc (suc (suc (suc (suc (suc d)))))))))) h = absurd (omega (arith, h))

-- an ASCII digit is written as it is
native_latn : (c : ℕ) → is_ascii_digit c ≡ true → native latn c ≡ c ∷ []
native_latn c digit =
    let range = is_digit c digit in
    let same : 48 + (c - 48) ≡ c = omega (arith, range) in
    subst (λ e. native latn e ≡ e ∷ []) same (native_digit (c - 48) (omega (arith, range)))

grouped_latn : (group : ℕ) (p : Pattern) (ds : Text) → list_all is_ascii_digit ds ≡ true → grouped latn false group p ds ≡ ds
grouped_latn group p [] digits = refl
grouped_latn group p (c ∷ cs) digits =
    let parts = and_parts (is_ascii_digit c) (list_all is_ascii_digit cs) digits in
    ap (λ s. s ++ grouped latn false group p cs) (native_latn c parts.0) ∙ ap (λ s. c ∷ s) (grouped_latn group p cs parts.1)

-- few digits aren't grouped
integer_latn : (f : Forms) (form : Form) (grouping : Bool) (ds : Text) → f.digits ≡ latn → length ds < form.pattern.primary + f.least_grouped → list_all is_ascii_digit ds ≡ true → integer_text f form grouping ds ≡ ds
integer_latn f form grouping ds ascii few digits =
    let enough = form.pattern.primary + f.least_grouped in
    rw (ascii, lt-leb enough (length ds) few, and-false grouping) (grouped_latn form.group form.pattern ds digits)

whole_latn : (f : Forms) (form : Form) (grouping : Bool) (whole : ℕ) → f.digits ≡ latn → length (decimal whole) < form.pattern.primary + f.least_grouped → whole < 2 ^ 64 → whole_text f form grouping 1 whole ≡ decimal whole
whole_latn f form grouping whole ascii few small =
    ap (integer_text f form grouping) (padded_enough 1 (decimal whole) (omega (arith, decimal_nonempty whole small)))
    ∙ integer_latn f form grouping (decimal whole) ascii few (digits_decimal by_places whole small)

-- a whole number, with nothing around its few digits
bare_parts : (f : Forms) (o : Options) (whole : ℕ) → f.digits ≡ latn → EndsInThreeDigits f.number.pattern → o.minimum_integer_digits ≡ None → length (decimal whole) < f.number.pattern.primary + f.least_grouped → whole < 2 ^ 64 → text_of_parts f (number_layout f) false o whole 0 0 ≡ decimal whole
bare_parts f o whole ascii ends integer few small =
    rw (ends.before, ends.after, integer, whole_latn f f.number o.use_grouping whole ascii few small) (append-nil (decimal whole))

-- no digits after the point are asked for
least_none : (o : Options) → o.minimum_fraction_digits ≡ None → least_fraction_digits 0 3 o ≡ 0
least_none o none = rw none (omega arith)

-- a bare number is written by what stands before the point and after it
by_parts : (l : Locale) (n : Number) (whole : ℕ) → IsBare n whole → numeral_text l n ≡ text_by l.forms (number_layout l.forms) false n.options (by_fraction 18 0 3 n.options (unsigned_abs n.value))
unfolding numeral_text
by_parts l n whole bare = rw (bare.decimal, bare.positive, bare.least_significant, bare.most_significant) refl

-- the text of a bare number
bare_written : (l : Locale) (n : Number) (whole : ℕ) → IsBare n whole → l.forms.digits ≡ latn → EndsInThreeDigits l.forms.number.pattern → length (decimal whole) < l.forms.number.pattern.primary + l.forms.least_grouped → whole < 2 ^ 64 → numeral_text l n ≡ decimal whole
bare_written l n whole bare ascii ends few small =
    let f = l.forms in
    let o = n.options in
    let k = 18 - most_fraction_digits 0 3 o in
    let left = rounded k (unsigned_abs n.value) in
    let shown = whole_shown k (unsigned_abs n.value) (omega arith) bare.fraction in
    let written : ℕ → ℕ → ℕ → Text = text_of_parts f (number_layout f) false o in
    by_parts l n whole bare
    ∙ ap (λ m. written m (left % 10 ^ 18) (least_fraction_digits 0 3 o)) (sym shown.0 ∙ bare.integer)
    ∙ ap (λ m. written whole m (least_fraction_digits 0 3 o)) (sym shown.1)
    ∙ ap (λ m. written whole 0 m) (least_none o bare.fraction_digits)
    ∙ bare_parts f o whole ascii ends bare.integer_digits few small

-- below a power of ten whose digits would be grouped
pub plain_below_power : (l : Locale) (k : ℕ) → 0 < k → k ≤ 18 → l.forms.digits ≡ latn → EndsInThreeDigits l.forms.number.pattern → 3 + l.forms.least_grouped ≡ k + 1 → WritesPlainlyBelow l (10 ^ k)
plain_below_power l k some most ascii ends enough n whole bare below =
    let small : whole < 2 ^ 64 = omega (arith, below, small_power k most) in
    let few : length (decimal whole) < l.forms.number.pattern.primary + l.forms.least_grouped = omega (arith, enough, ends.three, length-decimal-le k whole some below small) in
    bare_written l n whole bare ascii ends few small

-- the rules of Fluent show a bare number by its digits, too
pub bare_shown : (n : Number) (whole : ℕ) → IsBare n whole → number_text n ≡ decimal whole
unfolding number_text
bare_shown n whole bare =
    bare-text n.value n.options.minimum_fraction_digits bare.positive bare.fraction bare.fraction_digits ∙ ap decimal bare.integer

-- what the code's test of digits tells
pub ascii_digits : (digits : List ℕ) (test : Bool) → test ≡ not (pointwise nat_eq digits latn) → test ≡ false → digits ≡ latn
ascii_digits digits test is false_is =
    same_text digits latn (sym (not-false (pointwise nat_eq digits latn) (sym is ∙ false_is)))
