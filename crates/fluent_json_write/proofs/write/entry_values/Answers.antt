use Rattle.std.proofs.Common.{String, Global, string_bytes, sym, ◌∙◌}
use Rattle.serde_json.specs.View.{view}
use Rattle.fluent_ast.specs.View.{entry_view}
use Rattle.fluent_json_write.specs.Json.{json_entry}
use Rattle.fluent_json_write.specs.Parts.{entry_json}
use Rattle.fluent_json_write.proofs.Lists.{each-map, items_of-made}
use Rattle.fluent_json_write.proofs.write.entry_values.Goals as goal

pub returns : goal.returns
returns c =
    items_of-made view entry_json c.loop-entry.values.items c.args.entries.now c.loop-entry.entry-index c.loop-entry-test.false c.loop-entry.invariant
    ∙ sym (each-map json_entry (entry_view (String Global) string_bytes) c.args.entries.now)
