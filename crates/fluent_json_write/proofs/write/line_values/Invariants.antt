use Rattle.std.proofs.Common.{◌≡◌, map, take}
use Rattle.serde_json.specs.View.{view}
use Rattle.fluent_json_write.specs.Parts.{line_json}
use Rattle.fluent_json_write.proofs.write.line_values.Given as goal

abbrev pub invariant-loop-line : goal.invariant-loop-line
invariant-loop-line l = map view l.values.items ≡ map line_json (take l.line-index l.lines)
