use Rattle.std.proofs.Common.{◌≡◌, map, take}
use Rattle.serde_json.specs.View.{view}
use Rattle.fluent_json_write.specs.Parts.{attribute_json}
use Rattle.fluent_json_write.proofs.write.attribute_values.Given as goal

abbrev pub invariant-loop-attribute : goal.invariant-loop-attribute
invariant-loop-attribute l = map view l.values.items ≡ map attribute_json (take l.attribute-index l.attributes)
