use Rattle.std.proofs.Common.{◌≡◌, take}
use Rattle.std.specs.List.{list_any}
use Rattle.fluent_json.specs.Selects.{in_element, in_variant, in_inline, in_named}
use Rattle.fluent_json.proofs.selects.+selects.Given as goal

abbrev pub invariant-any_element-loop-element : goal.invariant-any_element-loop-element
invariant-any_element-loop-element l = l.found ≡ list_any in_element (take l.element-index l.elements)

abbrev pub invariant-any_variant-loop-variant : goal.invariant-any_variant-loop-variant
invariant-any_variant-loop-variant l = l.found ≡ list_any in_variant (take l.variant-index l.variants)

abbrev pub invariant-any_positional-loop-argument : goal.invariant-any_positional-loop-argument
invariant-any_positional-loop-argument l = l.found ≡ list_any in_inline (take l.argument-index l.arguments)

abbrev pub invariant-any_named-loop-argument : goal.invariant-any_named-loop-argument
invariant-any_named-loop-argument l = l.found ≡ list_any in_named (take l.argument-index l.arguments)
