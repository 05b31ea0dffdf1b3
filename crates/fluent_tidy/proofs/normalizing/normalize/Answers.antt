use Rattle.std.proofs.Common.{◌≡◌, refl, sym, ◌∙◌, subst}
use Rattle.fluent_grammar.specs.Tiling.{tree}
use Rattle.fluent_tidy_laws.specs.Cut.{cut}
use Rattle.fluent_tidy_laws.specs.Normal.{IsCanonical}
use Rattle.fluent_tidy_laws.proofs.NormalTexts.{no_normal_text_means_shaped}
use Rattle.fluent_tidy.specs.Sources.{holds_return}
use Rattle.fluent_tidy.proofs.NoReturn.{none_held}
use Rattle.fluent_tidy.proofs.Read.{of_error, not_true, value_is_no_error}
use Rattle.fluent_tidy.proofs.normalizing.normalize.Goals as goal

pub returns-clause-shaped : goal.returns-clause-shaped
returns-clause-shaped c = λ is.
    let source = c.args.source.now in
    let none = none_held source (not_true (holds_return source) (λ h. value_is_no_error _ _ _ refl (c.in_ok-text.ensures.carriage_return.1 h))) in
    let text : c.as_str.result.now ≡ cut source = c.as_str.ensures.value ∙ c.in_ok-text.ensures.text in
    let refused = of_error _ c.normalize_clean.result _ is c.normalize_clean.ensures.not_normal in
    no_normal_text_means_shaped source none c.utf8.source (λ canonical. refused refl (subst (λ z. IsCanonical (tree z)) (sym text) canonical))
