use Rattle.std.proofs.Common.{◌≤◌, refl, sym, ◌∙◌, rules}
use Rattle.serde_json.specs.Data.{depth, items_depth}
use Rattle.serde_json.specs.View.{view, items_view}
use Rattle.fluent_json_write.specs.Parts.{element_json, variant_json, inline_json, named_json}
use Rattle.fluent_json_write.proofs.Lists.{items_of-made, elements_json-items, variants_json-items, positional_json-items, nameds_json-items}
use Rattle.fluent_json.proofs.NoTree.{passed_on, depth-item, no_elements, no_variants, no_positional, no_named, no_element, no_selector, no_select_variants, no_expression, no_variable, no_term_id, no_term_attribute, no_term_arguments, no_function_id, no_function_arguments, no_nested, no_inline, no_maybe_arguments, no_call, no_call_positional, no_call_named}
use Rattle.fluent_json.proofs.read.patterns.+read.Goals as goal

pub read_elements-read_element-requires : goal.read_elements-read_element-requires
read_elements-read_element-requires t c =
    let within : depth (view c.value-item.result) ≤ items_depth (items_view c.args.values.now) =
    depth-item c.args.values.now c.loop-value.value-index c.value-item.result c.loop-value-test.true c.value-item.is in
    search rules

pub read_elements-returns-in_err-read_element-clause-shape : goal.read_elements-returns-in_err-read_element-clause-shape
read_elements-returns-in_err-read_element-clause-shape t c =
    passed_on c.from_residual.result c.from_residual.ensures.1 c.in_err-read_element.ensures.shape
    (no_elements c.args.values.now c.loop-value.value-index c.value-item.result c.loop-value-test.true c.value-item.is)

pub read_elements-returns-clause-ok : goal.read_elements-returns-clause-ok
read_elements-returns-clause-ok t c =
    elements_json-items c.loop-value.elements.items
    ∙ items_of-made element_json view c.loop-value.elements.items c.args.values.now c.loop-value.value-index c.loop-value-test.false c.loop-value.invariant

pub read_variants-read_variant-requires : goal.read_variants-read_variant-requires
read_variants-read_variant-requires t c =
    let within : depth (view c.value-item.result) ≤ items_depth (items_view c.args.values.now) =
    depth-item c.args.values.now c.loop-value.value-index c.value-item.result c.loop-value-test.true c.value-item.is in
    search rules

pub read_variants-returns-in_err-read_variant-clause-shape : goal.read_variants-returns-in_err-read_variant-clause-shape
read_variants-returns-in_err-read_variant-clause-shape t c =
    passed_on c.from_residual.result c.from_residual.ensures.1 c.in_err-read_variant.ensures.shape
    (no_variants c.args.values.now c.loop-value.value-index c.value-item.result c.loop-value-test.true c.value-item.is)

pub read_variants-returns-clause-ok : goal.read_variants-returns-clause-ok
read_variants-returns-clause-ok t c =
    variants_json-items c.loop-value.variants.items
    ∙ items_of-made variant_json view c.loop-value.variants.items c.args.values.now c.loop-value.value-index c.loop-value-test.false c.loop-value.invariant

pub read_positional-read_inline-requires : goal.read_positional-read_inline-requires
read_positional-read_inline-requires t c =
    let within : depth (view c.value-item.result) ≤ items_depth (items_view c.args.values.now) =
    depth-item c.args.values.now c.loop-value.value-index c.value-item.result c.loop-value-test.true c.value-item.is in
    search rules

pub read_positional-returns-in_err-read_inline-clause-shape : goal.read_positional-returns-in_err-read_inline-clause-shape
read_positional-returns-in_err-read_inline-clause-shape t c =
    passed_on c.from_residual.result c.from_residual.ensures.1 c.in_err-read_inline.ensures.shape
    (no_positional c.args.values.now c.loop-value.value-index c.value-item.result c.loop-value-test.true c.value-item.is)

pub read_positional-returns-clause-ok : goal.read_positional-returns-clause-ok
read_positional-returns-clause-ok t c =
    positional_json-items c.loop-value.positional.items
    ∙ items_of-made inline_json view c.loop-value.positional.items c.args.values.now c.loop-value.value-index c.loop-value-test.false c.loop-value.invariant

pub read_all_named-read_named-requires : goal.read_all_named-read_named-requires
read_all_named-read_named-requires t c =
    let within : depth (view c.value-item.result) ≤ items_depth (items_view c.args.values.now) =
    depth-item c.args.values.now c.loop-value.value-index c.value-item.result c.loop-value-test.true c.value-item.is in
    search rules

pub read_all_named-returns-in_err-read_named-clause-shape : goal.read_all_named-returns-in_err-read_named-clause-shape
read_all_named-returns-in_err-read_named-clause-shape t c =
    passed_on c.from_residual.result c.from_residual.ensures.1 c.in_err-read_named.ensures.shape
    (no_named c.args.values.now c.loop-value.value-index c.value-item.result c.loop-value-test.true c.value-item.is)

pub read_all_named-returns-clause-ok : goal.read_all_named-returns-clause-ok
read_all_named-returns-clause-ok t c =
    nameds_json-items c.loop-value.named.items
    ∙ items_of-made named_json view c.loop-value.named.items c.args.values.now c.loop-value.value-index c.loop-value-test.false c.loop-value.invariant

pub read_element-returns-clause-shape : goal.read_element-returns-clause-shape
read_element-returns-clause-shape t c = λ _. no_element _ c.in_default.ensures.none c.in_default-placeable.ensures.none

pub read_arguments-returns-in_default-clause-shape : goal.read_arguments-returns-in_default-clause-shape
read_arguments-returns-in_default-clause-shape t c = λ _. no_call _ c.in_default.ensures.none

pub read_arguments-returns-in_err-positional-clause-shape : goal.read_arguments-returns-in_err-positional-clause-shape
read_arguments-returns-in_err-positional-clause-shape t c =
    passed_on c.from_residual.result c.from_residual.ensures.1 c.in_err-positional.ensures.shape (no_call_positional _ _ _ c.in-Some.ensures.some)

pub read_arguments-returns-in_err-named-clause-shape : goal.read_arguments-returns-in_err-named-clause-shape
read_arguments-returns-in_err-named-clause-shape t c =
    passed_on c.from_residual-in_err-named.result c.from_residual-in_err-named.ensures.1 c.in_err-named.ensures.shape (no_call_named _ _ _ c.in-Some.ensures.some)

pub read_maybe_arguments-returns-in_err-read_arguments-clause-shape : goal.read_maybe_arguments-returns-in_err-read_arguments-clause-shape
read_maybe_arguments-returns-in_err-read_arguments-clause-shape t c =
    passed_on c.from_residual.result c.from_residual.ensures.1 c.in_err-read_arguments.ensures.shape (no_maybe_arguments _ (sym c.is_null.ensures ∙ c.if-is_null.false))

pub read_expression-returns-in_err-selector-clause-shape : goal.read_expression-returns-in_err-selector-clause-shape
read_expression-returns-in_err-selector-clause-shape t c =
    passed_on c.from_residual.result c.from_residual.ensures.1 c.in_err-selector.ensures.shape (no_selector _ _ _ c.in-Some.ensures.some)

pub read_expression-returns-in_err-variants-clause-shape : goal.read_expression-returns-in_err-variants-clause-shape
read_expression-returns-in_err-variants-clause-shape t c =
    passed_on c.from_residual-in_err-variants.result c.from_residual-in_err-variants.ensures.1 c.in_err-variants.ensures.shape (no_select_variants _ _ _ c.in-Some.ensures.some)

pub read_expression-returns-in_err-read_inline-clause-shape : goal.read_expression-returns-in_err-read_inline-clause-shape
read_expression-returns-in_err-read_inline-clause-shape t c =
    passed_on c.from_residual-in_err-read_inline.result c.from_residual-in_err-read_inline.ensures.1 c.in_err-read_inline.ensures.shape (no_expression _ c.in_default.ensures.none)

pub read_term_reference-returns-in_err-id-clause-shape : goal.read_term_reference-returns-in_err-id-clause-shape
read_term_reference-returns-in_err-id-clause-shape t c =
    passed_on c.from_residual.result c.from_residual.ensures.1 c.in_err-id.ensures.shape (no_term_id _ _ _)

pub read_term_reference-returns-in_err-attribute-clause-shape : goal.read_term_reference-returns-in_err-attribute-clause-shape
read_term_reference-returns-in_err-attribute-clause-shape t c =
    passed_on c.from_residual-in_err-attribute.result c.from_residual-in_err-attribute.ensures.1 c.in_err-attribute.ensures.shape (no_term_attribute _ _ _)

pub read_term_reference-returns-in_err-arguments-clause-shape : goal.read_term_reference-returns-in_err-arguments-clause-shape
read_term_reference-returns-in_err-arguments-clause-shape t c =
    passed_on c.from_residual-in_err-arguments.result c.from_residual-in_err-arguments.ensures.1 c.in_err-arguments.ensures.shape (no_term_arguments _ _ _)

pub read_inline-returns-clause-shape : goal.read_inline-returns-clause-shape
read_inline-returns-clause-shape t c = λ _.
    no_inline _ c.in_default.ensures.none c.in_default-number_literal.ensures.none c.in_default-variable_reference.ensures.none c.in_default-message_reference.ensures.none c.in_default-term_reference.ensures.none c.in_default-function_reference.ensures.none c.in_default-placeable.ensures.none

pub read_inline-returns-in_err-id-clause-shape : goal.read_inline-returns-in_err-id-clause-shape
read_inline-returns-in_err-id-clause-shape t c =
    passed_on c.from_residual-in_err-id.result c.from_residual-in_err-id.ensures.1 c.in_err-id.ensures.shape (no_variable _ _ c.in-Some-variable_reference.ensures.some)

pub read_function_reference-returns-in_err-id-clause-shape : goal.read_function_reference-returns-in_err-id-clause-shape
read_function_reference-returns-in_err-id-clause-shape t c =
    passed_on c.from_residual.result c.from_residual.ensures.1 c.in_err-id.ensures.shape (no_function_id _ _ _ refl)

pub read_function_reference-returns-in_err-arguments-clause-shape : goal.read_function_reference-returns-in_err-arguments-clause-shape
read_function_reference-returns-in_err-arguments-clause-shape t c =
    passed_on c.from_residual-in_err-arguments.result c.from_residual-in_err-arguments.ensures.1 c.in_err-arguments.ensures.shape (no_function_arguments _ _ _ refl)

pub read_nested-returns-in_err-read_expression-clause-shape : goal.read_nested-returns-in_err-read_expression-clause-shape
read_nested-returns-in_err-read_expression-clause-shape t c =
    passed_on c.from_residual.result c.from_residual.ensures.1 c.in_err-read_expression.ensures.shape (no_nested _ _ refl)
