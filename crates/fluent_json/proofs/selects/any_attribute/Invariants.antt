use Rattle.std.proofs.Common.{◌≡◌, take}
use Rattle.std.specs.List.{list_any}
use Rattle.fluent_json.specs.Selects.{in_attribute}
use Rattle.fluent_json.proofs.selects.any_attribute.Given as goal

abbrev pub invariant-loop-attribute : goal.invariant-loop-attribute
invariant-loop-attribute l = l.found ≡ list_any in_attribute (take l.attribute-index l.attributes)
