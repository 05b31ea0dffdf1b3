use Rattle.std.proofs.Common.{string_bytes, sym, ◌∙◌}
use Rattle.serde_json.specs.Data.{string}
use Rattle.serde_json.specs.View.{view}
use Rattle.fluent_json_write.specs.Parts.{line_json}
use Rattle.fluent_json_write.proofs.Lists.{each-map, items_of-made}
use Rattle.fluent_json_write.proofs.write.line_values.Goals as goal

pub returns : goal.returns
returns c =
    items_of-made view line_json c.loop-line.values.items c.args.lines.now c.loop-line.line-index c.loop-line-test.false c.loop-line.invariant
    ∙ sym (each-map string string_bytes c.args.lines.now)
