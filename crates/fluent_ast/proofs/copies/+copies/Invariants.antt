use Rattle.std.proofs.Common.{◌≡◌, map, take}
use Rattle.fluent_ast.specs.View.{element_view, inline_view, variant_view, named_view}
use Rattle.fluent_ast.proofs.copies.+copies.Given as goal

abbrev pub invariant-clone_pattern-loop-element : goal.invariant-clone_pattern-loop-element
invariant-clone_pattern-loop-element g l =
    let view = element_view g.row.S.Denot g.T.Texts.text in
    map view l.elements.items ≡ map view (take l.element-index l.element-items)

abbrev pub invariant-clone_variants-loop-variant : goal.invariant-clone_variants-loop-variant
invariant-clone_variants-loop-variant g l =
    let view = variant_view g.row.S.Denot g.T.Texts.text in
    map view l.copies.items ≡ map view (take l.variant-index l.variants)

abbrev pub invariant-clone_positional-loop-argument : goal.invariant-clone_positional-loop-argument
invariant-clone_positional-loop-argument g l =
    let view = inline_view g.row.S.Denot g.T.Texts.text in
    map view l.copies.items ≡ map view (take l.argument-index l.arguments)

abbrev pub invariant-clone_all_named-loop-argument : goal.invariant-clone_all_named-loop-argument
invariant-clone_all_named-loop-argument g l =
    let view = named_view g.row.S.Denot g.T.Texts.text in
    map view l.copies.items ≡ map view (take l.argument-index l.arguments)
