use Rattle.std.proofs.Common.{◌≡◌, map, take}
use Rattle.serde_json.specs.View.{view}
use Rattle.fluent_calls.specs.Calls.{value_data}
use Rattle.fluent_calls.specs.CallValues.{plain}
use Rattle.fluent_calls.proofs.call.positional_values.Given as goal

abbrev pub invariant-loop-value : goal.invariant-loop-value
invariant-loop-value l = map view l.values.items ≡ map (λ v. value_data (plain v)) (take l.value-index l.positional)
