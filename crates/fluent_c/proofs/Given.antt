-- Arguments that are set one after the other, and why one isn't.
use Rattle.std.proofs.Common.{◌≡◌, ◌∙◌, ℕ, ◌+◌, ◌<◌, List, [], ◌∷◌, length, get_or, take, map, Option, Some, None, false, is_some, Result, Ok, Err, IfErr, ap, refl, sym, subst, arith}
use Rattle.std.specs.List.Sorted.{IsPermutation}
use Rattle.std.proofs.lemmas.Bool.{false≢true}
use Rattle.std.proofs.lemmas.List.{take_more}
use Rattle.std.proofs.lemmas.List.Sorted.{Contains-permutation, IsPermutation-sym}
use Rattle.core.specs.Result.{IsErrAnd}
use Rattle.fluent_date.specs.declared.date_time.FluentDateTime.{FluentDateTime}
use Rattle.fluent_grammar.specs.Words.{Text}
use Rattle.fluent_value.proofs.Map.{set_last}
use Rattle.fluent_value.specs.Args.{all_set, with_argument}
use Rattle.fluent_value.specs.Value.{Value}
use Rattle.fluent_c.specs.Arguments.{AreRefusedFor}
use Rattle.fluent_kept.specs.Given.{pair_of}
use Rattle.fluent_c.specs.declared.arguments.ArgumentRefusal.{ArgumentRefusal}
use Rattle.fluent_c.specs.declared.arguments.ArgumentRefusal.TheVariants.{Memory}
use Rattle.fluent_kept.specs.declared.given.FluentArgument.{FluentArgument}

-- one argument more
pub set-next : (args : List (Text × Value FluentDateTime)) (given : List FluentArgument) (k : ℕ) (d : FluentArgument) → k < length given →
    args ≡ all_set [] (map pair_of (take k given)) →
    with_argument (pair_of (get_or given k d)).0 (pair_of (get_or given k d)).1 args ≡ all_set [] (map pair_of (take (k + 1) given))
set-next args given k d inside below =
    ap (with_argument (pair_of (get_or given k d)).0 (pair_of (get_or given k d)).1) below
    ∙ sym (ap (λ xs. all_set [] (map pair_of xs)) (take_more given k d inside) ∙ set_last pair_of [] (take k given) (get_or given k d))

-- a `?` hands a callee's refusal on
pub refused_on : {T : Type 0} (P : ArgumentRefusal → Type 0) {e : ArgumentRefusal} (r : Result T ArgumentRefusal) → IsErrAnd r (λ y. y ≡ e) → P e → IfErr r P
refused_on P (Ok x) is p = tt
refused_on P (Err y) is p = subst P (sym is) p

-- memory may run out before any is set, if there are any
pub before_the_first : (given : List FluentArgument) → 0 < length given → AreRefusedFor given Memory
before_the_first [] some = absurd (omega arith)
before_the_first (argument ∷ others) some = record { argument = argument; stands = (0, omega arith, refl); refused = tt }

-- there is no value, or one
pub no-value : {A : Type 0} (o : Option A) → is_some o ≡ false → o ≡ None
no-value None lacks = refl
no-value (Some x) lacks = absurd (false≢true (sym lacks))

-- why one of the same arguments in another order isn't taken is why one of these isn't
pub same_refused : (given sorted : List FluentArgument) (refusal : ArgumentRefusal) → IsPermutation given sorted → AreRefusedFor sorted refusal → AreRefusedFor given refusal
same_refused given sorted refusal same of =
    record { argument = of.argument; stands = Contains-permutation sorted given of.argument (IsPermutation-sym given sorted same) of.stands; refused = of.refused }
