use Rattle.fluent_json.specs.Selects.{in_attribute}
use Rattle.fluent_json.proofs.Selected.{all_of_them, in_attributes-any}
use Rattle.fluent_json.proofs.selects.any_attribute.Goals as goal

pub returns : goal.returns
returns c =
    all_of_them in_attribute c.args.attributes.now c.loop-attribute.attribute-index c.loop-attribute.found _ c.loop-attribute-test.false c.loop-attribute.invariant (in_attributes-any c.args.attributes.now)
