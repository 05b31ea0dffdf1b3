use Rattle.std.proofs.Common.{String, Global, string_bytes, ◌∙◌}
use Rattle.serde_json.specs.View.{view}
use Rattle.fluent_ast.specs.View.{entry_view}
use Rattle.fluent_json_write.specs.Json.{json_entry}
use Rattle.fluent_json_write.specs.Parts.{entry_json}
use Rattle.fluent_json_write.proofs.Lists.{each-map, items_of-made}
use Rattle.fluent_json.proofs.NoTree.{passed_on, no_each}
use Rattle.fluent_json.proofs.read.read_body.Goals as goal

pub returns-in_err-read_entry-clause-shape : goal.returns-in_err-read_entry-clause-shape
returns-in_err-read_entry-clause-shape c =
    passed_on c.from_residual.result c.from_residual.ensures.1 c.in_err-read_entry.ensures.shape
    (no_each json_entry c.args.values.now c.loop-value.value-index c.value-item.result c.loop-value-test.true c.value-item.is)

pub returns-clause-ok : goal.returns-clause-ok
returns-clause-ok c =
    each-map json_entry (entry_view (String Global) string_bytes) c.loop-value.body.items
    ∙ items_of-made entry_json view c.loop-value.body.items c.args.values.now c.loop-value.value-index c.loop-value-test.false c.loop-value.invariant
