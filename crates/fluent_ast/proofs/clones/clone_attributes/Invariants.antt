use Rattle.std.proofs.Common.{◌≡◌, map, take}
use Rattle.fluent_ast.specs.View.{attribute_view}
use Rattle.fluent_ast.proofs.clones.clone_attributes.Given as goal

abbrev pub invariant-loop-attribute : goal.invariant-loop-attribute
invariant-loop-attribute g l =
    let view = attribute_view g.row.S.Denot g.S.Slice.text in
    map view l.copies.items ≡ map view (take l.attribute-index l.attributes)
