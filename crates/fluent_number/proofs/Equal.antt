-- Equality of options, field by field.
use Rattle.std.proofs.Common.{◌≡◌, Bool, ◌&&◌, ◌==◌, eqb, ℕ, refl, sym, ap, Option, Some, None, option_map, string_bytes, string_eq, Decides, ℤ, pos, negsuc, arith, rules}
use Rattle.std.specs.Prelude.{unsigned_abs}
use Rattle.std.specs.Option.{option_eq}
use Rattle.std.specs.Cmp.{booleans_Decides}
use Rattle.std.proofs.lemmas.Bool.Decides.{Decides-and, Decides-eqb, Decides-like}
use Rattle.std.proofs.Math.Bool.{beq}
use Rattle.std.proofs.lemmas.Slice.Eq.{bytes_eq-Decides}
use Rattle.std.proofs.lemmas.Option.{none-some, same_Some}
use denote.Enum.Bare.{sameb, same_true, true_same}
use Rattle.fluent_number.specs.contracts.options.FluentNumberType as number_type
use Rattle.fluent_number.specs.contracts.options.FluentNumberStyle as style
use Rattle.fluent_number.specs.contracts.options.FluentNumberCurrencyDisplayStyle as currency_display
use Rattle.fluent_number.specs.declared.options.FluentNumberOptions.{FluentNumberOptions}
use Rattle.fluent_number.specs.declared.number.FluentNumber.{FluentNumber}
use Rattle.fluent_number.specs.Decimal.{is_below_zero, whole_of, fraction_of}
use Rattle.fluent_number.specs.Number.{Number, number_of}
use Rattle.fluent_number.specs.Options.{Options, options_of}

-- options are equal where what they hold looks the same
option_decides : {A B : Type 0} (E : A → A → Bool) (seen : A → B) → ((x y : A) → Decides (E x y) (seen x ≡ seen y)) → (a b : Option A) → Decides (option_eq E a b) (option_map seen a ≡ option_map seen b)
option_decides E seen each None None = (λ _. refl, λ _. refl)
option_decides E seen each None (Some y) = (λ e. cc, λ e. absurd (none-some (seen y) e))
option_decides E seen each (Some x) None = (λ e. cc, λ e. absurd (none-some (seen x) (sym e)))
option_decides E seen each (Some x) (Some y) =
    (λ e. ap (λ s. Some s) ((each x y).0 e), λ e. (each x y).1 (same_Some (seen x) (seen y) e))

-- counts are equal where they are the same
counts_decide : (a b : Option ℕ) → Decides (option_eq eqb a b) (a ≡ b)
counts_decide None None = (λ _. refl, λ _. refl)
counts_decide None (Some y) = (λ e. cc, λ e. absurd (none-some y e))
counts_decide (Some x) None = (λ e. cc, λ e. absurd (none-some x (sym e)))
counts_decide (Some x) (Some y) =
    (λ e. ap (λ n. Some n) ((Decides-eqb x y).0 e), λ e. (Decides-eqb x y).1 (same_Some x y e))

-- what `==` tests of options
abbrev pub equal_options : FluentNumberOptions → FluentNumberOptions → Bool
equal_options x y =
    sameb number_type.the_type x.number_type y.number_type
    && (sameb style.the_type x.style y.style
    && (option_eq string_eq x.currency y.currency
    && (sameb currency_display.the_type x.currency_display y.currency_display
    && (beq x.use_grouping y.use_grouping
    && (option_eq eqb x.minimum_integer_digits y.minimum_integer_digits
    && (option_eq eqb x.minimum_fraction_digits y.minimum_fraction_digits
    && (option_eq eqb x.maximum_fraction_digits y.maximum_fraction_digits
    && (option_eq eqb x.minimum_significant_digits y.minimum_significant_digits
    && option_eq eqb x.maximum_significant_digits y.maximum_significant_digits))))))))

pub options_decide : (x y : FluentNumberOptions) → Decides (equal_options x y) (options_of x ≡ options_of y)
options_decide x y =
    Decides-like (equal_options x y)
    (λ same i. record {
      number_type = same.0 i;
      style = same.1.0 i;
      currency = same.1.1.0 i;
      currency_display = same.1.1.1.0 i;
      use_grouping = same.1.1.1.1.0 i;
      minimum_integer_digits = same.1.1.1.1.1.0 i;
      minimum_fraction_digits = same.1.1.1.1.1.1.0 i;
      maximum_fraction_digits = same.1.1.1.1.1.1.1.0 i;
      minimum_significant_digits = same.1.1.1.1.1.1.1.1.0 i;
      maximum_significant_digits = same.1.1.1.1.1.1.1.1.1 i;
    })
    (λ e. (ap (λ (o : Options). o.number_type) e, (ap (λ (o : Options). o.style) e, (ap (λ (o : Options). o.currency) e, (ap (λ (o : Options). o.currency_display) e, (ap (λ (o : Options). o.use_grouping) e, (ap (λ (o : Options). o.minimum_integer_digits) e, (ap (λ (o : Options). o.minimum_fraction_digits) e, (ap (λ (o : Options). o.maximum_fraction_digits) e, (ap (λ (o : Options). o.minimum_significant_digits) e, ap (λ (o : Options). o.maximum_significant_digits) e))))))))))
    (Decides-and _ _ (same_true number_type.the_type (search rules) x.number_type y.number_type, true_same number_type.the_type x.number_type y.number_type)
    (Decides-and _ _ (same_true style.the_type (search rules) x.style y.style, true_same style.the_type x.style y.style)
    (Decides-and _ _ (option_decides string_eq string_bytes (λ a b. bytes_eq-Decides (string_bytes a) (string_bytes b)) x.currency y.currency)
    (Decides-and _ _ (same_true currency_display.the_type (search rules) x.currency_display y.currency_display, true_same currency_display.the_type x.currency_display y.currency_display)
    (Decides-and _ _ (booleans_Decides x.use_grouping y.use_grouping)
    (Decides-and _ _ (counts_decide x.minimum_integer_digits y.minimum_integer_digits)
    (Decides-and _ _ (counts_decide x.minimum_fraction_digits y.minimum_fraction_digits)
    (Decides-and _ _ (counts_decide x.maximum_fraction_digits y.maximum_fraction_digits)
    (Decides-and _ _ (counts_decide x.minimum_significant_digits y.minimum_significant_digits)
    (counts_decide x.maximum_significant_digits y.maximum_significant_digits))))))))))

-- what `==` tests of decimals
abbrev pub equal_decimals : ℤ → ℤ → Bool
equal_decimals x y =
    beq (is_below_zero x) (is_below_zero y) && (whole_of x == whole_of y && fraction_of x == fraction_of y)

same_sign : (x y : ℤ) → is_below_zero x ≡ is_below_zero y → unsigned_abs x ≡ unsigned_abs y → x ≡ y
same_sign (pos m) (pos n) sign size = ap pos size
same_sign (pos m) (negsuc n) sign size = cc
same_sign (negsuc m) (pos n) sign size = cc
same_sign (negsuc m) (negsuc n) sign size = ap negsuc (let e : m ≡ n = omega (arith, size) in e)

pub decimals_decide : (x y : ℤ) → Decides (equal_decimals x y) (x ≡ y)
decimals_decide x y =
    Decides-like (equal_decimals x y)
    (λ same. same_sign x y same.0 (let whole = same.1.0 in let fraction = same.1.1 in omega (arith, whole, fraction)))
    (λ e. (ap is_below_zero e, (ap whole_of e, ap fraction_of e)))
    (Decides-and _ _ (booleans_Decides (is_below_zero x) (is_below_zero y))
    (Decides-and _ _ (Decides-eqb (whole_of x) (whole_of y)) (Decides-eqb (fraction_of x) (fraction_of y))))

pub numbers_decide : (x y : FluentNumber) → Decides (equal_decimals x.value y.value && equal_options x.options y.options) (number_of x ≡ number_of y)
numbers_decide x y =
    Decides-like (equal_decimals x.value y.value && equal_options x.options y.options)
    (λ same i. record { value = same.0 i; options = same.1 i })
    (λ e. (ap (λ (n : Number). n.value) e, ap (λ (n : Number). n.options) e))
    (Decides-and _ _ (decimals_decide x.value y.value) (options_decide x.options y.options))
