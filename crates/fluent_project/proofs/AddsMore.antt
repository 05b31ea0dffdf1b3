-- What the rules add, one after the other.
use Rattle.std.proofs.Common.{◌≡◌, ◌∙◌, suc, ◌-◌, ◌≤◌, List, [], ◌∷◌, ◌++◌, length, take, drop, get_or, ap, arith}
use Rattle.std.proofs.lemmas.List.{take_all}
use Rattle.fluent_project.specs.declared.pairs.Rule as code
use Rattle.fluent_project.specs.PairViews.{rule_view, rules_view}
use Rattle.fluent_project.specs.Pairs.{Tree, all_alone, all_translations, alone_of, translations_of}
use Rattle.fluent_project.specs.Patterns.{Text}

module _ (tree : Tree) (locale : Text) where
  -- the first rule comes after the others
  pub alone_more : (rules : List code.Rule) (d : code.Rule) → 1 ≤ length rules → d ≡ get_or rules 0 d
      → all_alone tree locale (rules_view (take (length rules - 1) (drop 1 rules))) ++ alone_of locale tree.files (rule_view d) ≡ all_alone tree locale (rules_view rules)
  alone_more [] d some is = absurd (omega (arith, some))
  alone_more (r ∷ rs) d some is =
      ap (λ x. all_alone tree locale (rules_view (take (suc (length rs) - 1) rs)) ++ alone_of locale tree.files (rule_view x)) is
      ∙ ap (λ l. all_alone tree locale (rules_view l) ++ alone_of locale tree.files (rule_view r)) (take_all (suc (length rs) - 1) rs (omega arith))

  pub translations_more : (rules : List code.Rule) (d : code.Rule) → 1 ≤ length rules → d ≡ get_or rules 0 d
      → all_translations tree locale (rules_view (take (length rules - 1) (drop 1 rules))) ++ translations_of locale tree.references (rule_view d) ≡ all_translations tree locale (rules_view rules)
  translations_more [] d some is = absurd (omega (arith, some))
  translations_more (r ∷ rs) d some is =
      ap (λ x. all_translations tree locale (rules_view (take (suc (length rs) - 1) rs)) ++ translations_of locale tree.references (rule_view x)) is
      ∙ ap (λ l. all_translations tree locale (rules_view l) ++ translations_of locale tree.references (rule_view r)) (take_all (suc (length rs) - 1) rs (omega arith))
