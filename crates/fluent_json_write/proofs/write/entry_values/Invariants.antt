use Rattle.std.proofs.Common.{◌≡◌, map, take}
use Rattle.serde_json.specs.View.{view}
use Rattle.fluent_json_write.specs.Parts.{entry_json}
use Rattle.fluent_json_write.proofs.write.entry_values.Given as goal

abbrev pub invariant-loop-entry : goal.invariant-loop-entry
invariant-loop-entry l = map view l.values.items ≡ map entry_json (take l.entry-index l.entries)
