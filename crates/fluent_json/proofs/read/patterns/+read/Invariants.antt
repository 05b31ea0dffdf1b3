-- A value's depth goes down. A list of values, and what hands its value on, come before it at one depth.
use Rattle.std.proofs.Common.{◌≡◌, ◌+◌, ◌*◌, map, take}
use Rattle.serde_json.specs.Data.{depth, items_depth}
use Rattle.serde_json.specs.View.{view, items_view}
use Rattle.fluent_json_write.specs.Parts.{element_json, variant_json, inline_json, named_json}
use Rattle.fluent_json.proofs.read.patterns.+read.Given as goal

abbrev pub decreases-read_pattern : goal.decreases-read_pattern
decreases-read_pattern l = 3 * depth (view l.value.now)

abbrev pub decreases-read_elements : goal.decreases-read_elements
decreases-read_elements l = 3 * items_depth (items_view l.values.now) + 1

abbrev pub decreases-read_element : goal.decreases-read_element
decreases-read_element l = 3 * depth (view l.value.now)

abbrev pub decreases-read_expression : goal.decreases-read_expression
decreases-read_expression l = 3 * depth (view l.value.now) + 1

abbrev pub decreases-read_variants : goal.decreases-read_variants
decreases-read_variants l = 3 * items_depth (items_view l.values.now) + 1

abbrev pub decreases-read_variant : goal.decreases-read_variant
decreases-read_variant l = 3 * depth (view l.value.now)

abbrev pub decreases-read_inline : goal.decreases-read_inline
decreases-read_inline l = 3 * depth (view l.value.now)

abbrev pub decreases-read_nested : goal.decreases-read_nested
decreases-read_nested l = 3 * depth (view l.expression.now) + 2

abbrev pub decreases-read_function_reference : goal.decreases-read_function_reference
decreases-read_function_reference l = 3 * depth (view l.arguments.now) + 1

abbrev pub decreases-read_term_reference : goal.decreases-read_term_reference
decreases-read_term_reference l = 3 * depth (view l.arguments.now) + 2

abbrev pub decreases-read_maybe_arguments : goal.decreases-read_maybe_arguments
decreases-read_maybe_arguments l = 3 * depth (view l.value.now) + 1

abbrev pub decreases-read_arguments : goal.decreases-read_arguments
decreases-read_arguments l = 3 * depth (view l.value.now)

abbrev pub decreases-read_positional : goal.decreases-read_positional
decreases-read_positional l = 3 * items_depth (items_view l.values.now) + 1

abbrev pub decreases-read_all_named : goal.decreases-read_all_named
decreases-read_all_named l = 3 * items_depth (items_view l.values.now) + 1

abbrev pub decreases-read_named : goal.decreases-read_named
decreases-read_named l = 3 * depth (view l.value.now)

abbrev pub invariant-read_elements-loop-value : goal.invariant-read_elements-loop-value
invariant-read_elements-loop-value l = map element_json l.elements.items ≡ map view (take l.value-index l.values)

abbrev pub invariant-read_variants-loop-value : goal.invariant-read_variants-loop-value
invariant-read_variants-loop-value l = map variant_json l.variants.items ≡ map view (take l.value-index l.values)

abbrev pub invariant-read_positional-loop-value : goal.invariant-read_positional-loop-value
invariant-read_positional-loop-value l = map inline_json l.positional.items ≡ map view (take l.value-index l.values)

abbrev pub invariant-read_all_named-loop-value : goal.invariant-read_all_named-loop-value
invariant-read_all_named-loop-value l = map named_json l.named.items ≡ map view (take l.value-index l.values)
