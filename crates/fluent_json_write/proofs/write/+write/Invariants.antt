use Rattle.std.proofs.Common.{◌≡◌, map, take}
use Rattle.serde_json.specs.View.{view}
use Rattle.fluent_json_write.specs.Parts.{element_json, variant_json, inline_json, named_json}
use Rattle.fluent_json_write.proofs.write.+write.Given as goal

abbrev pub invariant-element_values-loop-element : goal.invariant-element_values-loop-element
invariant-element_values-loop-element l = map view l.values.items ≡ map element_json (take l.element-index l.elements)

abbrev pub invariant-variant_values-loop-variant : goal.invariant-variant_values-loop-variant
invariant-variant_values-loop-variant l = map view l.values.items ≡ map variant_json (take l.variant-index l.variants)

abbrev pub invariant-positional_values-loop-argument : goal.invariant-positional_values-loop-argument
invariant-positional_values-loop-argument l = map view l.values.items ≡ map inline_json (take l.argument-index l.arguments)

abbrev pub invariant-named_values-loop-argument : goal.invariant-named_values-loop-argument
invariant-named_values-loop-argument l = map view l.values.items ≡ map named_json (take l.argument-index l.arguments)
