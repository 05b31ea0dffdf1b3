-- The last argument of a name is the one that counts.
use Rattle.std.proofs.Common.{◌≡◌, ◌∙◌, ℕ, ◌+◌, ◌<◌, List, [], Some, length, get_or, take, map, ap, sym, subst}
use Rattle.std.proofs.lemmas.List.{take_more}
use Rattle.fluent_grammar.specs.Words.{Text}
use Rattle.fluent_value.proofs.Map.{differ, others_stay, set_is_found, set_last}
use Rattle.fluent_value.specs.Args.{all_set, argument, with_argument}
use Rattle.fluent_kept.specs.Given.{given_view, pair_of}
use Rattle.fluent_kept.specs.declared.given.FluentArgument.{FluentArgument}

module _ (given : List FluentArgument) (k : ℕ) (d : FluentArgument) (name : Text) (inside : k < length given) where
  abbrev next : FluentArgument
  next = get_or given k d

  one_more : given_view (take (k + 1) given) ≡ with_argument (pair_of next).0 (pair_of next).1 (given_view (take k given))
  one_more = ap (λ xs. all_set [] (map pair_of xs)) (take_more given k d inside) ∙ set_last pair_of [] (take k given) next

  -- an argument of the name counts in place of those before it
  pub is_last : next.name.now ≡ name → argument name (given_view (take (k + 1) given)) ≡ Some (pair_of next).1
  is_last same =
      subst (λ n. argument n (given_view (take (k + 1) given)) ≡ Some (pair_of next).1) same
      (ap (argument next.name.now) one_more ∙ set_is_found next.name.now (pair_of next).1 (given_view (take k given)))

  -- another changes nothing
  pub is_other : (next.name.now ≡ name → ⊥) → argument name (given_view (take (k + 1) given)) ≡ argument name (given_view (take k given))
  is_other never =
      ap (argument name) one_more
      ∙ others_stay next.name.now (pair_of next).1 name (differ name next.name.now (λ same. never (sym same))) (given_view (take k given))
