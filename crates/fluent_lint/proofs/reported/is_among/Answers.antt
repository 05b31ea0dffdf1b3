use Rattle.std.proofs.Common.{◌≡◌, ◌∙◌, ◌||◌, List, [], ◌∷◌, Bor, map, refl, ap, rules}
use Rattle.std.specs.List.{list_any}
use Rattle.std.specs.Str.{bytes_eq}
use Rattle.std.proofs.lemmas.Iterator.{YieldsList-from_slice}
use Rattle.std.proofs.lemmas.Iterator.Search.{any_from_yields_List}
use Rattle.fluent_grammar.specs.Words.{Text}
use Rattle.fluent_lint.proofs.reported.is_among.Goals as goal

of_texts : (name : Text) (names : List (Bor Text)) → list_any (λ (s : Bor Text). bytes_eq s.now name) names ≡ list_any (λ other. bytes_eq other name) (map (λ (s : Bor Text). s.now) names)
of_texts name [] = refl
of_texts name (s ∷ names) = ap (λ b. bytes_eq s.now name || b) (of_texts name names)

pub returns : goal.returns
returns c =
    any_from_yields_List (λ (s : Bor Text). bytes_eq s.now c.args.code.now) _ _ c.any.result c.any.ensures.ran
    (YieldsList-from_slice c.args.codes.now cc) (λ x b q k. search rules)
    ∙ of_texts c.args.code.now c.args.codes.now
