use Rattle.std.proofs.Common.{◌∙◌, ap}
use Rattle.fluent_ast.specs.View.{Variant, variant_view}
use Rattle.fluent_ast.proofs.Views.{variant_view-out}
use Rattle.lint_flaws.specs.FactsBy.{keys_of}
use Rattle.lint_flaws.proofs.FactSteps.{one_key}
use Rattle.lint_flaws.proofs.attribute_texts.push_keys.Goals as goal

pub loop-variant-preserved : goal.loop-variant-preserved
loop-variant-preserved c =
    one_key c.args.attribute.id.now c.args.attribute.name.now (keys_of c.args.attribute) c.args.attribute.text.now (variant_view _ (λ s. s.now)) c.args.variants.now c.loop-variant.variant-index _ c.variant-item.result _ _
    c.loop-variant.found.items c.push_key.new.found.items c.loop-variant-test.true c.variant-item.is
    (ap (λ (v : Variant). v.key) (variant_view-out _ (λ s. s.now) c.variant-item.result)) (ap (λ (v : Variant). v.default) (variant_view-out _ (λ s. s.now) c.variant-item.result))
    c.in_ok-push_key.ensures
    ∙ c.loop-variant.invariant
