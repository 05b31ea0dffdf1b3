use Rattle.std.proofs.Common.{sym, ◌∙◌}
use Rattle.fluent_json_write.specs.Parts.{plain}
use Rattle.fluent_json.proofs.NoTree.{no_version_needed}
use Rattle.fluent_json.proofs.read.read_resource.Goals as goal

pub returns-then-selects_by_attribute-clause-shape : goal.returns-then-selects_by_attribute-clause-shape
returns-then-selects_by_attribute-clause-shape c = λ _.
    no_version_needed _ _ (plain c.in_ok-resource.resource) c.in-Some-unversioned_resource.ensures.some c.in_ok-resource.ensures.ok (sym c.selects_by_attribute.ensures ∙ c.if-selects_by_attribute.true)
