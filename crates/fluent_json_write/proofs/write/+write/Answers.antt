use Rattle.std.proofs.Common.{sym, ◌∙◌}
use Rattle.serde_json.specs.View.{view}
use Rattle.fluent_json_write.specs.Parts.{variant_json, inline_json, named_json, element_json}
use Rattle.fluent_json_write.proofs.Lists.{items_of-made, elements_json-items, variants_json-items, positional_json-items, nameds_json-items}
use Rattle.fluent_json_write.proofs.write.+write.Goals as goal

pub variant_values-returns : goal.variant_values-returns
variant_values-returns t c =
    items_of-made view variant_json c.loop-variant.values.items c.args.variants.now c.loop-variant.variant-index c.loop-variant-test.false c.loop-variant.invariant
    ∙ sym (variants_json-items c.args.variants.now)

pub positional_values-returns : goal.positional_values-returns
positional_values-returns t c =
    items_of-made view inline_json c.loop-argument.values.items c.args.arguments.now c.loop-argument.argument-index c.loop-argument-test.false c.loop-argument.invariant
    ∙ sym (positional_json-items c.args.arguments.now)

pub named_values-returns : goal.named_values-returns
named_values-returns t c =
    items_of-made view named_json c.loop-argument.values.items c.args.arguments.now c.loop-argument.argument-index c.loop-argument-test.false c.loop-argument.invariant
    ∙ sym (nameds_json-items c.args.arguments.now)

pub element_values-returns : goal.element_values-returns
element_values-returns t c =
    items_of-made view element_json c.loop-element.values.items c.args.elements.now c.loop-element.element-index c.loop-element-test.false c.loop-element.invariant
    ∙ sym (elements_json-items c.args.elements.now)
