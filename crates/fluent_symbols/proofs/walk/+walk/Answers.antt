use Rattle.std.proofs.Common.{◌+◌, map, drop, refl, ap}
use Rattle.fluent_ast.specs.View.{inlines_of, named_view, nameds_of, variant_view, variants_of}
use Rattle.fluent_ast.specs.Borrowed.{inline_of}
use Rattle.fluent_ast.proofs.Views.{named_view-out, variant_view-out}
use Rattle.fluent_symbols.specs.OccurrenceView.{label, label_if, occurrence_view}
use Rattle.fluent_symbols.proofs.NodeSteps.{seen_from}
use Rattle.fluent_symbols.proofs.WalkSteps.{named_kept, positional_kept, variant_kept}
use Rattle.fluent_symbols.proofs.walk.+walk.Goals as goal

pub push_variants-loop-variant-preserved : goal.push_variants-loop-variant-preserved
push_variants-loop-variant-preserved t c =
    let view = variant_view _ (λ s. s.now) in
    let items = c.args.variants.now in
    let i = c.loop-variant.variant-index in
    let seen = variant_view-out _ (λ s. s.now) c.variant-item.result in
    let ok = c.in_ok-push_pattern in
    variant_kept (label c.args.owner) _ _ _ (variants_of (map view (drop i items))) (variants_of (map view (drop (i + 1) items)))
    c.key_text-key.result.now c.loop-variant.rest.now c.key_of_variant.result.now c.after_name.result.now c.after_sign-value.result.now ok.field-0.now c.skip_blank-rest.result.now _
    (map occurrence_view c.loop-variant.found.items) (map occurrence_view c.push_pattern.new.found.items) _
    (ap variants_of (seen_from view items i c.variant-item.result c.loop-variant-test.true c.variant-item.is seen))
    c.key_text-key.ensures c.key_of_variant.ensures c.after_name.ensures c.after_sign-value.ensures ok.ensures.rest c.skip_blank-rest.ensures ok.ensures.added
    c.loop-variant.invariant.0 c.loop-variant.invariant.1

pub push_positional-loop-argument-preserved : goal.push_positional-loop-argument-preserved
push_positional-loop-argument-preserved t c =
    let items = c.args.given.now in
    let i = c.loop-argument.argument-index in
    let ok = c.in_ok-push_inline in
    positional_kept (label c.args.owner) (inline_of c.argument-item.result) (inlines_of (map inline_of (drop i items))) (inlines_of (map inline_of (drop (i + 1) items)))
    c.loop-argument.rest.now ok.field-0.now c.skip_separator-rest.result.now _ (map occurrence_view c.loop-argument.found.items) (map occurrence_view c.push_inline.new.found.items) _
    (ap inlines_of (seen_from inline_of items i c.argument-item.result c.loop-argument-test.true c.argument-item.is refl))
    ok.ensures.rest c.skip_separator-rest.ensures ok.ensures.added c.loop-argument.invariant.0 c.loop-argument.invariant.1

pub push_named-loop-argument-preserved : goal.push_named-loop-argument-preserved
push_named-loop-argument-preserved t c =
    let view = named_view _ (λ s. s.now) in
    let items = c.args.given.now in
    let i = c.loop-argument.argument-index in
    let seen = named_view-out _ (λ s. s.now) c.argument-item.result in
    let ok = c.in_ok-push_inline in
    named_kept (label c.args.owner) (label_if c.args.callee) _ _ (nameds_of (map view (drop i items))) (nameds_of (map view (drop (i + 1) items)))
    c.loop-argument.rest.now c.value_of_argument-value.result.now ok.field-0.now c.skip_separator-rest.result.now _
    (map occurrence_view c.loop-argument.found.items) (map occurrence_view c.push_argument.new.found.items) (map occurrence_view c.push_inline.new.found.items) _
    (ap nameds_of (seen_from view items i c.argument-item.result c.loop-argument-test.true c.argument-item.is seen))
    c.value_of_argument-value.ensures ok.ensures.rest c.skip_separator-rest.ensures c.in_ok-push_argument.ensures ok.ensures.added c.loop-argument.invariant.0 c.loop-argument.invariant.1
