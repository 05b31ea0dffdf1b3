-- The arguments of a call, by those of the code.
use Rattle.std.proofs.Common.{◌≡◌, ◌∙◌, ◌+◌, suc, List, [], Bor, ap, map, subst, sym}
use Rattle.fluent_ast.proofs.Views.{arguments_view-out}
use Rattle.fluent_ast.specs.Borrowed.{arguments_of, inline_of}
use Rattle.fluent_ast.specs.View.{inlines_of, named_view, nameds_of}
use Rattle.fluent_ast.specs.declared.CallArguments.{CallArguments, out-CallArguments}
use Rattle.fluent_grammar.specs.Tree as t
use Rattle.fluent_grammar.specs.Words.{Text}
use Rattle.fluent_meaning.proofs.States.{finds-as}
use Rattle.fluent_meaning.specs.Environment.{Environment}
use Rattle.fluent_meaning.specs.Refused.{TellsSome}
use Rattle.fluent_meaning.specs.Steps.{mapped}
use Rattle.fluent_meaning.specs.Substitution as s
use Rattle.fluent_meaning.specs.Substitution.{Surroundings}
use Rattle.fluent_meaning.specs.Told.{Finds, State}
use Rattle.fluent_meaning.specs.Weight.{arguments_weight, inlines_weight, nameds_weight}
use Rattle.fluent_value.specs.Args.{all_set}
use Rattle.fluent_value.specs.Value.{Value}
use Rattle.fluent_resolver.proofs.Calls.{args-first, args-found, args-second}
use Rattle.fluent_resolver.proofs.Parts.{tells-as, weight-arguments}

-- those without a name, and those with one
abbrev pub positional_in : CallArguments (Bor Text) → t.Inlines
positional_in a = inlines_of (map inline_of (out-CallArguments (Bor Text) a).positional.items)

abbrev pub nameds_in : CallArguments (Bor Text) → t.Nameds
nameds_in a = nameds_of (map (named_view (Bor Text) (λ s. s.now)) (out-CallArguments (Bor Text) a).named.items)

pub arguments-in : (a : CallArguments (Bor Text)) → arguments_of a ≡ t.arguments (positional_in a) (nameds_in a)
arguments-in a = arguments_view-out (Bor Text) (λ s. s.now) a

pub weight-in : (a : CallArguments (Bor Text)) → arguments_weight (arguments_of a) ≡ suc (inlines_weight (positional_in a) + nameds_weight (nameds_in a))
weight-in a = ap arguments_weight (arguments-in a) ∙ weight-arguments (positional_in a) (nameds_in a)

-- positional arguments were resolved, and then those with a name at a place that is the same
module _ {S F : Type 0} (env : Environment S F) (place : Surroundings S) (a : CallArguments (Bor Text)) where
  pub given-first : {r u : State} → TellsSome r u (s.positional_found env (positional_in a) place r.budget) → TellsSome r u (s.arguments_found env (t.with_arguments (arguments_of a)) place r.budget)
  given-first {r = r} h = tells-as (ap (λ x. s.arguments_found env (t.with_arguments x) place r.budget) (sym (arguments-in a))) (args-first env place (positional_in a) (nameds_in a) h)

  module _ {vs : List (Value S)} {r u : State} (first : Finds vs r u (s.positional_found env (positional_in a) place)) {at : Surroundings S} (same : at ≡ place) where
    pub given-second : {w : State} → TellsSome u w (mapped (all_set []) (s.named_found env (nameds_in a) at u.budget)) → TellsSome r w (s.arguments_found env (t.with_arguments (arguments_of a)) place r.budget)
    given-second {w = w} h =
        let second = subst (λ p. TellsSome u w (mapped (all_set []) (s.named_found env (nameds_in a) p u.budget))) same h in
        tells-as (ap (λ x. s.arguments_found env (t.with_arguments x) place r.budget) (sym (arguments-in a))) (args-second env place (positional_in a) (nameds_in a) first second)

    pub given-found : {named : List (Text × Value S)} {w : State} → Finds named u w (λ b. mapped (all_set []) (s.named_found env (nameds_in a) at b)) → Finds (record { positional = vs; named = named }) r w (s.arguments_found env (t.with_arguments (arguments_of a)) place)
    given-found {named = named} {w = w} h =
        let second = subst (λ p. Finds named u w (λ b. mapped (all_set []) (s.named_found env (nameds_in a) p b))) same h in
        finds-as _ _ (ap (λ x. s.arguments_found env (t.with_arguments x) place r.budget) (sym (arguments-in a))) (args-found env place (positional_in a) (nameds_in a) first second)
