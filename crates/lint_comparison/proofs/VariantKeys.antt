-- The keys of variants, one after the other.
use Rattle.std.proofs.Common.{◌≡◌, ◌∙◌, Bool, ◌&&◌, ◌||◌, List, [], ◌∷◌, refl, ap, sym, Bor}
use Rattle.std.specs.List.{list_all, list_any}
use Rattle.fluent_ast.specs.Borrowed.{elements_of, key_of, variants_of}
use Rattle.fluent_ast.specs.View as view
use Rattle.fluent_ast.specs.View.{variant_view}
use Rattle.fluent_ast.specs.declared.Variant.{Variant}
use Rattle.fluent_ast.proofs.Views.{variant_view-out}
use Rattle.fluent_grammar.specs.Tree.{VariantKey}
use Rattle.fluent_grammar.specs.Words.{Text}
use Rattle.lint_findings.specs.MissingCategories.{variant_keys}

pub variant_is : (v : Variant (Bor Text)) → variant_view _ (λ s. s.now) v ≡ record { key = key_of v.key; value = elements_of v.value; default = v.default }
variant_is v = variant_view-out _ (λ s. s.now) v

module _ (test : VariantKey → Bool) where
  abbrev of_key : Variant (Bor Text) → Bool
  of_key v = test (key_of v.key)

  pub all_keys : (vs : List (Variant (Bor Text))) → list_all of_key vs ≡ list_all test (variant_keys (variants_of vs))
  all_keys [] = refl
  all_keys (v ∷ vs) = ap (λ b. of_key v && b) (all_keys vs) ∙ ap (λ (w : view.Variant). test w.key && list_all test (variant_keys (variants_of vs))) (sym (variant_is v))

  pub any_key : (vs : List (Variant (Bor Text))) → list_any of_key vs ≡ list_any test (variant_keys (variants_of vs))
  any_key [] = refl
  any_key (v ∷ vs) = ap (λ b. of_key v || b) (any_key vs) ∙ ap (λ (w : view.Variant). test w.key || list_any test (variant_keys (variants_of vs))) (sym (variant_is v))
