-- `==` of values holds both ways round, and along a chain, as that of numbers and of a program's own type does.
use Rattle.std.specs.Prelude.{◌≡◌, Bool, true, refl}
use Rattle.std.specs.Cmp.{IsPartialEquivalence, partial_equiv_from_equiv}
use Rattle.std.specs.Cmp.Lexicographic.{nat_list_eq_equiv}
use Rattle.std.specs.Cow.{cow_str_bytes}
use Rattle.fluent_number.specs.declared.number.FluentNumber.{FluentNumber}
use Rattle.fluent_value.specs.View.{value_eq}
use Rattle.fluent_value.specs.declared.value.FluentValue.{FluentValue}
use Rattle.fluent_value.specs.declared.value.FluentValue.TheVariants as of

module _ {C S : Type 0} (meaning : C → S) (same : S → S → Bool) (same_number : FluentNumber → FluentNumber → Bool) (own : IsPartialEquivalence same) (numbers : IsPartialEquivalence same_number) where
  value_eq-symm : (x y : FluentValue C) → value_eq meaning same same_number x y ≡ value_eq meaning same same_number y x
  value_eq-symm (of.String s) (of.String r) = nat_list_eq_equiv.symm (cow_str_bytes s) (cow_str_bytes r)
  value_eq-symm (of.String s) (of.Number n) = refl
  value_eq-symm (of.String s) (of.Custom c) = refl
  value_eq-symm (of.String s) of.None = refl
  value_eq-symm (of.String s) of.Error = refl
  value_eq-symm (of.Number n) (of.String s) = refl
  value_eq-symm (of.Number n) (of.Number m) = numbers.symm n m
  value_eq-symm (of.Number n) (of.Custom c) = refl
  value_eq-symm (of.Number n) of.None = refl
  value_eq-symm (of.Number n) of.Error = refl
  value_eq-symm (of.Custom c) (of.String s) = refl
  value_eq-symm (of.Custom c) (of.Number n) = refl
  value_eq-symm (of.Custom c) (of.Custom d) = own.symm (meaning c) (meaning d)
  value_eq-symm (of.Custom c) of.None = refl
  value_eq-symm (of.Custom c) of.Error = refl
  value_eq-symm of.None (of.String s) = refl
  value_eq-symm of.None (of.Number n) = refl
  value_eq-symm of.None (of.Custom c) = refl
  value_eq-symm of.None of.None = refl
  value_eq-symm of.None of.Error = refl
  value_eq-symm of.Error (of.String s) = refl
  value_eq-symm of.Error (of.Number n) = refl
  value_eq-symm of.Error (of.Custom c) = refl
  value_eq-symm of.Error of.None = refl
  value_eq-symm of.Error of.Error = refl

  value_eq-trans : (x y z : FluentValue C) → value_eq meaning same same_number x y ≡ true → value_eq meaning same same_number y z ≡ true → value_eq meaning same same_number x z ≡ true
  value_eq-trans (of.String s) (of.String r) (of.String t) h k = (partial_equiv_from_equiv nat_list_eq_equiv).trans (cow_str_bytes s) (cow_str_bytes r) (cow_str_bytes t) h k
  value_eq-trans (of.String s) (of.String r) (of.Number n) h k = k
  value_eq-trans (of.String s) (of.String r) (of.Custom c) h k = k
  value_eq-trans (of.String s) (of.String r) of.None h k = k
  value_eq-trans (of.String s) (of.String r) of.Error h k = k
  value_eq-trans (of.String s) (of.Number n) z h k = cc
  value_eq-trans (of.String s) (of.Custom c) z h k = cc
  value_eq-trans (of.String s) of.None z h k = cc
  value_eq-trans (of.String s) of.Error z h k = cc
  value_eq-trans (of.Number n) (of.Number m) (of.Number l) h k = numbers.trans n m l h k
  value_eq-trans (of.Number n) (of.Number m) (of.String s) h k = k
  value_eq-trans (of.Number n) (of.Number m) (of.Custom c) h k = k
  value_eq-trans (of.Number n) (of.Number m) of.None h k = k
  value_eq-trans (of.Number n) (of.Number m) of.Error h k = k
  value_eq-trans (of.Number n) (of.String s) z h k = cc
  value_eq-trans (of.Number n) (of.Custom c) z h k = cc
  value_eq-trans (of.Number n) of.None z h k = cc
  value_eq-trans (of.Number n) of.Error z h k = cc
  value_eq-trans (of.Custom c) (of.Custom d) (of.Custom e) h k = own.trans (meaning c) (meaning d) (meaning e) h k
  value_eq-trans (of.Custom c) (of.Custom d) (of.String s) h k = k
  value_eq-trans (of.Custom c) (of.Custom d) (of.Number n) h k = k
  value_eq-trans (of.Custom c) (of.Custom d) of.None h k = k
  value_eq-trans (of.Custom c) (of.Custom d) of.Error h k = k
  value_eq-trans (of.Custom c) (of.String s) z h k = cc
  value_eq-trans (of.Custom c) (of.Number n) z h k = cc
  value_eq-trans (of.Custom c) of.None z h k = cc
  value_eq-trans (of.Custom c) of.Error z h k = cc
  value_eq-trans of.None y z h k = cc
  value_eq-trans of.Error y z h k = cc

  pub value_eq-per : IsPartialEquivalence (value_eq meaning same same_number)
  value_eq-per = record { symm = value_eq-symm; trans = value_eq-trans }
