use Rattle.std.proofs.Common.{◌≡◌, take}
use Rattle.std.specs.List.{list_any}
use Rattle.fluent_json.specs.Selects.{in_entry}
use Rattle.fluent_json.proofs.selects.any_entry.Given as goal

abbrev pub invariant-loop-entry : goal.invariant-loop-entry
invariant-loop-entry l = l.found ≡ list_any in_entry (take l.entry-index l.entries)
