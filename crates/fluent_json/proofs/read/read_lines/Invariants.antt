use Rattle.std.proofs.Common.{◌≡◌, map, take}
use Rattle.serde_json.specs.View.{view}
use Rattle.fluent_json_write.specs.Parts.{line_json}
use Rattle.fluent_json.proofs.read.read_lines.Given as goal

abbrev pub invariant-loop-value : goal.invariant-loop-value
invariant-loop-value l = map line_json l.lines.items ≡ map view (take l.value-index l.values)
