-- The tests by which values match hold exactly where what they compare is equal.
use Rattle.std.proofs.Common.{◌≡◌, ℕ, Bool, true, false, Option, Some, None, refl, sym, ◌∙◌, Decides}
use Rattle.std.specs.Prelude.{◌&&◌, ◌==◌}
use Rattle.std.specs.Str.{bytes_eq}
use Rattle.std.specs.Cmp.{unsigned_Decides}
use Rattle.std.proofs.lemmas.Bool.{false≢true}
use Rattle.std.proofs.lemmas.Bool.Decides.{Decides-and, Decides-int_eq}
use Rattle.std.proofs.lemmas.Slice.Eq.{bytes_eq-Decides}
use Rattle.fluent_number.specs.Number.{Number}
use Rattle.fluent_number.specs.Options.{Options}
use Rattle.fluent_number.specs.declared.options.FluentNumberType.{FluentNumberType}
use Rattle.fluent_number.specs.declared.options.FluentNumberType.TheVariants as type
use Rattle.fluent_number.specs.declared.options.FluentNumberStyle.{FluentNumberStyle}
use Rattle.fluent_number.specs.declared.options.FluentNumberStyle.TheVariants as style
use Rattle.fluent_number.specs.declared.options.FluentNumberCurrencyDisplayStyle.{FluentNumberCurrencyDisplayStyle}
use Rattle.fluent_number.specs.declared.options.FluentNumberCurrencyDisplayStyle.TheVariants as display
use Rattle.fluent_value.specs.Matching.{Plurals, category_of, category_text, same_type, same_style, same_display, same_bool, same_option, same_count, same_options, same_number, matches, Matches}
use Rattle.fluent_value.specs.Value.{Value, text, number, custom, none, error}

-- a test that fails decides what can't be
apart : {P : Type 0} (b : Bool) → b ≡ false → (P → ⊥) → Decides b P
apart b fails never = (λ holds. absurd (false≢true (sym fails ∙ holds)), λ p. absurd (never p))

-- one part, and two parts, of something
by_one : {P R : Type 0} (a : Bool) → Decides a P → (P → R) → (R → P) → Decides a R
by_one a d to from = (λ holds. to (d.0 holds), λ r. d.1 (from r))

by_two : {P Q R : Type 0} (a b : Bool) → Decides a P → Decides b Q → (P → Q → R) → (R → P) → (R → Q) → Decides (a && b) R
by_two a b d e to first second = let both = Decides-and a b d e in (λ holds. let p = both.0 holds in to p.0 p.1, λ r. both.1 (first r, second r))

pub option-decides : {A : Type 0} (same : A → A → Bool) → ((a b : A) → Decides (same a b) (a ≡ b)) → (o p : Option A) → Decides (same_option same o p) (o ≡ p)
option-decides same decides None None = (λ _. refl, λ _. refl)
option-decides same decides None (Some b) = apart _ refl (λ h. cc)
option-decides same decides (Some a) None = apart _ refl (λ h. cc)
option-decides same decides (Some a) (Some b) = by_one _ (decides a b) (λ p. cc) (λ h. cc)

pub count-decides : (a b : Option ℕ) → Decides (same_count a b) (a ≡ b)
count-decides a b = option-decides (λ a b. a == b) unsigned_Decides a b

pub bool-decides : (a b : Bool) → Decides (same_bool a b) (a ≡ b)
bool-decides true true = (λ _. refl, λ _. refl)
bool-decides true false = apart _ refl (λ h. cc)
bool-decides false true = apart _ refl (λ h. cc)
bool-decides false false = (λ _. refl, λ _. refl)

pub type-decides : (a b : FluentNumberType) → Decides (same_type a b) (a ≡ b)
type-decides type.Cardinal type.Cardinal = (λ _. refl, λ _. refl)
type-decides type.Cardinal type.Ordinal = apart _ refl (λ h. cc)
type-decides type.Ordinal type.Cardinal = apart _ refl (λ h. cc)
type-decides type.Ordinal type.Ordinal = (λ _. refl, λ _. refl)

pub style-decides : (a b : FluentNumberStyle) → Decides (same_style a b) (a ≡ b)
style-decides style.Decimal style.Decimal = (λ _. refl, λ _. refl)
style-decides style.Decimal style.Currency = apart _ refl (λ h. cc)
style-decides style.Decimal style.Percent = apart _ refl (λ h. cc)
style-decides style.Currency style.Decimal = apart _ refl (λ h. cc)
style-decides style.Currency style.Currency = (λ _. refl, λ _. refl)
style-decides style.Currency style.Percent = apart _ refl (λ h. cc)
style-decides style.Percent style.Decimal = apart _ refl (λ h. cc)
style-decides style.Percent style.Currency = apart _ refl (λ h. cc)
style-decides style.Percent style.Percent = (λ _. refl, λ _. refl)

pub display-decides : (a b : FluentNumberCurrencyDisplayStyle) → Decides (same_display a b) (a ≡ b)
display-decides display.Symbol display.Symbol = (λ _. refl, λ _. refl)
display-decides display.Symbol display.Code = apart _ refl (λ h. cc)
display-decides display.Symbol display.Name = apart _ refl (λ h. cc)
display-decides display.Code display.Symbol = apart _ refl (λ h. cc)
display-decides display.Code display.Code = (λ _. refl, λ _. refl)
display-decides display.Code display.Name = apart _ refl (λ h. cc)
display-decides display.Name display.Symbol = apart _ refl (λ h. cc)
display-decides display.Name display.Code = apart _ refl (λ h. cc)
display-decides display.Name display.Name = (λ _. refl, λ _. refl)

-- two records are equal where their members are
by_members : (a b : Options) → a.number_type ≡ b.number_type → a.style ≡ b.style → a.currency ≡ b.currency
    → a.currency_display ≡ b.currency_display → a.use_grouping ≡ b.use_grouping → a.minimum_integer_digits ≡ b.minimum_integer_digits
    → a.minimum_fraction_digits ≡ b.minimum_fraction_digits → a.maximum_fraction_digits ≡ b.maximum_fraction_digits
    → a.minimum_significant_digits ≡ b.minimum_significant_digits → a.maximum_significant_digits ≡ b.maximum_significant_digits → a ≡ b
by_members a b p q r s t u v w x y = λ i. record {
  number_type = p i;
  style = q i;
  currency = r i;
  currency_display = s i;
  use_grouping = t i;
  minimum_integer_digits = u i;
  minimum_fraction_digits = v i;
  maximum_fraction_digits = w i;
  minimum_significant_digits = x i;
  maximum_significant_digits = y i;
}

pub options-decide : (a b : Options) → Decides (same_options a b) (a ≡ b)
options-decide a b =
    by_two _ _ (type-decides a.number_type b.number_type)
    (Decides-and _ _ (style-decides a.style b.style)
    (Decides-and _ _ (option-decides bytes_eq bytes_eq-Decides a.currency b.currency)
    (Decides-and _ _ (display-decides a.currency_display b.currency_display)
    (Decides-and _ _ (bool-decides a.use_grouping b.use_grouping)
    (Decides-and _ _ (count-decides a.minimum_integer_digits b.minimum_integer_digits)
    (Decides-and _ _ (count-decides a.minimum_fraction_digits b.minimum_fraction_digits)
    (Decides-and _ _ (count-decides a.maximum_fraction_digits b.maximum_fraction_digits)
    (Decides-and _ _ (count-decides a.minimum_significant_digits b.minimum_significant_digits)
    (count-decides a.maximum_significant_digits b.maximum_significant_digits)))))))))
    (λ p q. by_members a b p q.0 q.1.0 q.1.1.0 q.1.1.1.0 q.1.1.1.1.0 q.1.1.1.1.1.0 q.1.1.1.1.1.1.0 q.1.1.1.1.1.1.1.0 q.1.1.1.1.1.1.1.1)
    (λ h. cc) (λ h. (cc, (cc, (cc, (cc, (cc, (cc, (cc, (cc, cc)))))))))

pub number-decides : (a b : Number) → Decides (same_number a b) (a ≡ b)
number-decides a b = by_two _ _ (Decides-int_eq a.value b.value) (options-decide a.options b.options) (λ p q i. record { value = p i; options = q i }) (λ h. cc) (λ h. cc)

pub matches-decides : {S : Type 0} (plurals : Plurals) (k v : Value S) → Decides (matches plurals k v) (Matches plurals k v)
matches-decides plurals (text k) (text s) = bytes_eq-Decides k s
matches-decides plurals (text k) (number n) = bytes_eq-Decides k (category_text (category_of plurals n))
matches-decides plurals (text k) (custom c) = apart _ refl (λ h. h)
matches-decides plurals (text k) none = apart _ refl (λ h. h)
matches-decides plurals (text k) error = apart _ refl (λ h. h)
matches-decides plurals (number k) (text s) = apart _ refl (λ h. h)
matches-decides plurals (number k) (number n) = number-decides k n
matches-decides plurals (number k) (custom c) = apart _ refl (λ h. h)
matches-decides plurals (number k) none = apart _ refl (λ h. h)
matches-decides plurals (number k) error = apart _ refl (λ h. h)
matches-decides plurals (custom k) v = apart _ refl (λ h. h)
matches-decides plurals none v = apart _ refl (λ h. h)
matches-decides plurals error v = apart _ refl (λ h. h)
