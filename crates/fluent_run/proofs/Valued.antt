-- Arguments that are set one after the other.
use Rattle.std.proofs.Common.{◌≡◌, ℕ, ◌+◌, ◌<◌, List, [], ◌∷◌, length, get_or, take, map, Option, Some, None, option_map, refl, ap, sym, ◌∙◌}
use Rattle.std.proofs.lemmas.List.{take_more}
use Rattle.std.specs.List.{list_all}
use Rattle.std.specs.Prelude.{is_some}
use denote.Ref.{Bor}
use Rattle.fluent_grammar.specs.Words.{Text}
use Rattle.fluent_run.specs.DeskView.{valued}
use Rattle.fluent_serve.specs.RequestView.{all_arguments, argument_view}
use Rattle.fluent_serve.specs.Requests.{and_argument}
use Rattle.fluent_value.proofs.Map.{set_last}
use Rattle.fluent_value.specs.Args.{all_set, with_argument}
use Rattle.fluent_value.specs.Value.{Value}

-- one pair more
pub set-next : (args : List (Text × Value (Unit {0}))) (pairs : List (Bor Text × Bor Text)) (k : ℕ) (d : Bor Text × Bor Text) → k < length pairs →
    args ≡ all_set [] (map (λ p. valued (argument_view p)) (take k pairs)) →
    with_argument (valued (argument_view (get_or pairs k d))).0 (valued (argument_view (get_or pairs k d))).1 args ≡ all_set [] (map (λ p. valued (argument_view p)) (take (k + 1) pairs))
set-next args pairs k d inside below =
    ap (with_argument (valued (argument_view (get_or pairs k d))).0 (valued (argument_view (get_or pairs k d))).1) below
    ∙ sym (ap (λ ps. all_set [] (map (λ p. valued (argument_view p)) ps)) (take_more pairs k d inside)
    ∙ set_last (λ p. valued (argument_view p)) [] (take k pairs) (get_or pairs k d))

-- the values once what is left of a line is read too
abbrev pub values_with : List (Text × Value (Unit {0})) → List (Option (Text × Text)) → Option (List (Text × Value (Unit {0})))
values_with args left = option_map (λ pairs. all_set args (map valued pairs)) (all_arguments left)

-- whether no argument is missing is whether there are all arguments
pub none_missing : (left : List (Option (Text × Text))) → list_all (λ argument. is_some argument) left ≡ is_some (all_arguments left)
none_missing [] = refl
none_missing (None ∷ left) = refl
none_missing (Some pair ∷ left) = none_missing left ∙ with_pair (all_arguments left)
  where
    with_pair : (later : Option (List (Text × Text))) → is_some later ≡ is_some (and_argument (Some pair) later)
    with_pair None = refl
    with_pair (Some pairs) = refl

-- an argument is there if the code's is
pub viewed : (argument : Option (Bor Text × Bor Text)) → is_some argument ≡ is_some (option_map argument_view argument)
viewed None = refl
viewed (Some pair) = refl
