use Rattle.std.proofs.Common.{String, Global, string_bytes, ◌∙◌}
use Rattle.serde_json.specs.View.{view}
use Rattle.fluent_ast.specs.View.{attribute_view}
use Rattle.fluent_json_write.specs.Json.{json_attribute}
use Rattle.fluent_json_write.specs.Parts.{attribute_json}
use Rattle.fluent_json_write.proofs.Lists.{each-map, items_of-made}
use Rattle.fluent_json.proofs.NoTree.{passed_on, no_each}
use Rattle.fluent_json.proofs.read.read_attributes.Goals as goal

pub returns-in_err-read_attribute-clause-shape : goal.returns-in_err-read_attribute-clause-shape
returns-in_err-read_attribute-clause-shape c =
    passed_on c.from_residual.result c.from_residual.ensures.1 c.in_err-read_attribute.ensures.shape
    (no_each json_attribute c.args.values.now c.loop-value.value-index c.value-item.result c.loop-value-test.true c.value-item.is)

pub returns-clause-ok : goal.returns-clause-ok
returns-clause-ok c =
    each-map json_attribute (attribute_view (String Global) string_bytes) c.loop-value.attributes.items
    ∙ items_of-made attribute_json view c.loop-value.attributes.items c.args.values.now c.loop-value.value-index c.loop-value-test.false c.loop-value.invariant
