use Rattle.std.proofs.Common.{string_bytes, ◌∙◌}
use Rattle.serde_json.specs.Data.{string}
use Rattle.serde_json.specs.View.{view}
use Rattle.fluent_json_write.specs.Parts.{line_json}
use Rattle.fluent_json_write.proofs.Lists.{each-map, items_of-made}
use Rattle.fluent_json.proofs.NoTree.{no_each, no_text}
use Rattle.fluent_json.proofs.read.read_lines.Goals as goal

pub returns-in_default-clause-shape : goal.returns-in_default-clause-shape
returns-in_default-clause-shape c = λ _.
    no_each string c.args.values.now c.loop-value.value-index c.value-item.result c.loop-value-test.true c.value-item.is (no_text _ c.in_default.ensures)

pub returns-clause-ok : goal.returns-clause-ok
returns-clause-ok c =
    each-map string string_bytes c.loop-value.lines.items
    ∙ items_of-made line_json view c.loop-value.lines.items c.args.values.now c.loop-value.value-index c.loop-value-test.false c.loop-value.invariant
