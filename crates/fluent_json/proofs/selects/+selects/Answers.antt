use Rattle.fluent_json.specs.Selects.{in_element, in_variant, in_inline, in_named}
use Rattle.fluent_json.proofs.Selected.{all_of_them, in_elements-any, in_variants-any, in_positional-any, in_nameds-any}
use Rattle.fluent_json.proofs.selects.+selects.Goals as goal

pub any_element-returns : goal.any_element-returns
any_element-returns t c =
    all_of_them in_element c.args.elements.now c.loop-element.element-index c.loop-element.found _ c.loop-element-test.false c.loop-element.invariant (in_elements-any c.args.elements.now)

pub any_variant-returns : goal.any_variant-returns
any_variant-returns t c =
    all_of_them in_variant c.args.variants.now c.loop-variant.variant-index c.loop-variant.found _ c.loop-variant-test.false c.loop-variant.invariant (in_variants-any c.args.variants.now)

pub any_positional-returns : goal.any_positional-returns
any_positional-returns t c =
    all_of_them in_inline c.args.arguments.now c.loop-argument.argument-index c.loop-argument.found _ c.loop-argument-test.false c.loop-argument.invariant (in_positional-any c.args.arguments.now)

pub any_named-returns : goal.any_named-returns
any_named-returns t c =
    all_of_them in_named c.args.arguments.now c.loop-argument.argument-index c.loop-argument.found _ c.loop-argument-test.false c.loop-argument.invariant (in_nameds-any c.args.arguments.now)
