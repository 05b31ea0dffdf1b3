use Rattle.std.proofs.Common.{◌≡◌, map, take, string_bytes}
use Rattle.std.specs.Prelude.{false, ◌||◌}
use Rattle.fluent_grammar.specs.Written.{onto, elements_signs, variants_signs, inlines_signs, nameds_signs, has_positional}
use Rattle.fluent_ast.specs.View.{element_view, elements_of, inline_view, inlines_of, variant_view, variants_of, named_view, nameds_of}
use Rattle.fluent_serializer.proofs.Laid.{has_named}
use Rattle.fluent_serializer.proofs.+writing.Given as goal

abbrev pub invariant-expressions::write_elements-loop-element : goal.invariant-expressions::write_elements-loop-element
invariant-expressions::write_elements-loop-element g l =
    let view = element_view g.row.S.Denot g.T.Texts.text in
    string_bytes l.out ≡ onto (string_bytes l.initial.out) (elements_signs l.level (elements_of (map view (take l.element-index l.elements))))

abbrev pub invariant-expressions::write_variants-loop-variant : goal.invariant-expressions::write_variants-loop-variant
invariant-expressions::write_variants-loop-variant g l =
    let view = variant_view g.row.S.Denot g.T.Texts.text in
    string_bytes l.out ≡ onto (string_bytes l.initial.out) (variants_signs l.level (variants_of (map view (take l.variant-index l.variants))))

abbrev pub invariant-inline::write_positional-loop-argument : goal.invariant-inline::write_positional-loop-argument
invariant-inline::write_positional-loop-argument g l =
    let written = inlines_of (map (inline_view g.row.S.Denot g.T.Texts.text) (take l.argument-index l.arguments)) in
    (string_bytes l.out ≡ onto (string_bytes l.initial.out) (inlines_signs l.level false written)) × (l.after ≡ has_positional written)

abbrev pub invariant-inline::write_all_named-loop-argument : goal.invariant-inline::write_all_named-loop-argument
invariant-inline::write_all_named-loop-argument g l =
    let written = nameds_of (map (named_view g.row.S.Denot g.T.Texts.text) (take l.argument-index l.arguments)) in
    (string_bytes l.out ≡ onto (string_bytes l.initial.out) (nameds_signs l.level l.initial.after written)) × (l.after ≡ (l.initial.after || has_named written))
