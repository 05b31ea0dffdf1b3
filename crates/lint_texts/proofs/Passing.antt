-- The first of some texts that has what is looked for.
use Rattle.std.proofs.Common.{◌≡◌, ◌∙◌, ℕ, ◌+◌, ◌<◌, List, length, map, drop, get_or, Option, Some, None, ap, sym}
use Rattle.std.specs.Option.{option_or}
use Rattle.std.proofs.lemmas.List.{drop_more}
use Rattle.fluent_grammar.specs.Words.{Text}
use Rattle.lint_findings.specs.Typing.{first_found}

module _ {A : Type 0} (view : A → Text) (xs : List A) (i : ℕ) (default : A) (inside : i < length xs) where
  abbrev rest : List Text
  rest = map view (drop (i + 1) xs)

  -- by the next one
  found_by : (find : Text → Option Text) → first_found find (map view (drop i xs)) ≡ option_or (find (view (get_or xs i default))) (first_found find rest)
  found_by find = ap (λ ys. first_found find (map view ys)) (drop_more xs i default inside)

  pub found_later : (find : Text → Option Text) → find (view (get_or xs i default)) ≡ None → first_found find rest ≡ first_found find (map view (drop i xs))
  found_later find none = sym (found_by find ∙ ap (λ o. option_or o (first_found find rest)) none)

  pub found_here : (find : Text → Option Text) (t : Text) → find (view (get_or xs i default)) ≡ Some t → first_found find (map view (drop i xs)) ≡ Some t
  found_here find t there = found_by find ∙ ap (λ o. option_or o (first_found find rest)) there
