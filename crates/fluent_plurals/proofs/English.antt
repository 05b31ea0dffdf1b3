-- The rules of `en` beside those of `EnglishPlurals`. For ordinals the first ask whether the number is whole, and the second
-- whether digits are left after the point without zeros at the end.
use Rattle.std.proofs.Common.{◌≡◌, Bool, true, false, ℕ, zero, suc, ◌-◌, ◌*◌, ◌^◌, ◌%◌, ◌<◌, [], ◌∷◌, refl, sym, ap, ◌∙◌, length, take, ◌==◌, ◌&&◌, nat_eq, arith}
use Rattle.std.proofs.lemmas.Bool.{ne_eqb}
use Rattle.std.proofs.Math.Bool.{and-false}
use Rattle.std.specs.Prelude.{if◌then◌else◌, not}
use Rattle.fluent_number.specs.Decimal.{whole_of, fraction_of}
use Rattle.fluent_number.specs.Digits.{Text, digits_worth, last_digits, without_end_zeros}
use Rattle.fluent_number.specs.Number.{Number}
use Rattle.fluent_number.specs.Operands.{operands_of}
use Rattle.fluent_number.specs.Plurals.{english_ordinal_of_whole}
use Rattle.fluent_number.specs.declared.plural.PluralOperands.{PluralOperands}
use Rattle.fluent_number.specs.declared.plural.PluralCategory.{PluralCategory}
use Rattle.fluent_number.specs.declared.plural.PluralCategory.TheVariants.{ONE, TWO, FEW, OTHER}
use Rattle.fluent_number.specs.declared.plural.PluralRuleType.TheVariants.{CARDINAL, ORDINAL}
use Rattle.fluent_number.proofs.LastDigits.{worth-last_digits}
use Rattle.fluent_number.proofs.Zeros.{zeros_back, worth-append-zeros}
use Rattle.fluent_plurals.specs.Conditions.{category_by}
use Rattle.fluent_plurals.specs.Ordinal as ordinal
use Rattle.fluent_plurals.specs.Laws.{EnglishIsTheSame}

no_worth : (s : Text) → length s ≡ 0 → digits_worth s ≡ 0
no_worth [] e = refl
no_worth (c ∷ cs) e = absurd (omega (arith, e))

none_of : (n : ℕ) → 0 * n ≡ 0
none_of n = omega arith

-- no digits are left of 0 alone
left_of_zero : (f : ℕ) → f < 10 ^ 18 → length (without_end_zeros (last_digits 18 f)) ≡ 0 → f ≡ 0
left_of_zero f small e =
    let ds = last_digits 18 f in
    let left = without_end_zeros ds in
    let more = length ds - length left in
    sym (worth-last_digits 18 f small)
    ∙ ap digits_worth (sym (zeros_back ds))
    ∙ worth-append-zeros left more
    ∙ ap (λ n. n * 10 ^ more) (no_worth left e)
    ∙ none_of (10 ^ more)

digits_left : (f : ℕ) → f < 10 ^ 18 → nat_eq f 0 ≡ (digits_worth (take (length (without_end_zeros (last_digits 18 f))) (last_digits 18 f)) == 0 && length (without_end_zeros (last_digits 18 f)) == 0)
unfolding last_digits
digits_left zero small = refl
digits_left (suc k) small =
    let w = length (without_end_zeros (last_digits 18 (suc k))) in
    let t = digits_worth (take w (last_digits 18 (suc k))) in
    let some : (w == 0) ≡ false = ne_eqb w 0 (λ e. absurd (let none = left_of_zero (suc k) small e in omega (arith, none))) in
    ne_eqb (suc k) 0 (λ e. absurd (omega (arith, e))) ∙ sym (ap (λ b. t == 0 && b) some ∙ and-false (t == 0))

whole_operand : (number : Number) → nat_eq (fraction_of (operands_of number).n) 0 ≡ ((operands_of number).t == 0 && (operands_of number).w == 0)
unfolding operands_of
whole_operand number = digits_left (fraction_of number.value) (omega arith)

same_whole : (number : Number) → whole_of (operands_of number).n ≡ (operands_of number).i
unfolding operands_of
same_whole number = refl

abbrev by_whole : Bool → ℕ → PluralCategory
by_whole b k = if b then english_ordinal_of_whole k else OTHER

abbrev by_rules : Bool → ℕ → PluralCategory
by_rules b k =
    if (b && nat_eq (k % 10) 1) && not (b && nat_eq (k % 100) 11) then ONE
    else (if (b && nat_eq (k % 10) 2) && not (b && nat_eq (k % 100) 12) then TWO
    else (if (b && nat_eq (k % 10) 3) && not (b && nat_eq (k % 100) 13) then FEW else OTHER))

same_by : (b : Bool) (k : ℕ) → by_rules b k ≡ by_whole b k
same_by true k = refl
same_by false k = refl

rules_of_en : (o : PluralOperands) → category_by ordinal.en o ≡ by_rules (nat_eq (fraction_of o.n) 0) (whole_of o.n)
rules_of_en o = refl

pub english_same : EnglishIsTheSame
english_same CARDINAL number = refl
english_same ORDINAL number =
    let o = operands_of number in
    rules_of_en o
    ∙ same_by (nat_eq (fraction_of o.n) 0) (whole_of o.n)
    ∙ ap (λ b. by_whole b (whole_of o.n)) (whole_operand number)
    ∙ ap (λ k. by_whole (o.t == 0 && o.w == 0) k) (same_whole number)
