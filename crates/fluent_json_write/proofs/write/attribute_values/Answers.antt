use Rattle.std.proofs.Common.{String, Global, string_bytes, sym, ◌∙◌}
use Rattle.serde_json.specs.View.{view}
use Rattle.fluent_ast.specs.View.{attribute_view}
use Rattle.fluent_json_write.specs.Json.{json_attribute}
use Rattle.fluent_json_write.specs.Parts.{attribute_json}
use Rattle.fluent_json_write.proofs.Lists.{each-map, items_of-made}
use Rattle.fluent_json_write.proofs.write.attribute_values.Goals as goal

pub returns : goal.returns
returns c =
    items_of-made view attribute_json c.loop-attribute.values.items c.args.attributes.now c.loop-attribute.attribute-index c.loop-attribute-test.false c.loop-attribute.invariant
    ∙ sym (each-map json_attribute (attribute_view (String Global) string_bytes) c.args.attributes.now)
