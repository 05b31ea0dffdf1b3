use Rattle.serde_json.specs.View.{view}
use Rattle.fluent_calls.specs.Calls.{value_data}
use Rattle.fluent_calls.specs.CallValues.{plain}
use Rattle.fluent_calls.proofs.Texts.{made-all}
use Rattle.fluent_calls.proofs.call.positional_values.Goals as goal

pub returns : goal.returns
returns c = made-all view value_data plain c.loop-value.values.items c.args.positional.now c.loop-value.value-index c.loop-value-test.false c.loop-value.invariant
