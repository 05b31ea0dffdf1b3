use Rattle.std.proofs.Common.{◌≡◌, map, take, string_bytes}
use Rattle.fluent_grammar.specs.Written.{onto, attributes_signs}
use Rattle.fluent_ast.specs.View.{attribute_view}
use Rattle.fluent_serializer.proofs.entries.write_attributes.Given as goal

abbrev pub invariant-loop-attribute : goal.invariant-loop-attribute
invariant-loop-attribute g l =
    let view = attribute_view g.row.S.Denot g.S.Slice.text in
    string_bytes l.out ≡ onto (string_bytes l.initial.out) (attributes_signs (map view (take l.attribute-index l.attributes)))
