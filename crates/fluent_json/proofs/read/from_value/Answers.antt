use Rattle.std.proofs.Common.{refl}
use Rattle.std.proofs.lemmas.Result.{IfErr-at_err}
use Rattle.fluent_json.proofs.OneTree.{is_that_tree}
use Rattle.fluent_json.proofs.read.from_value.Goals as goal

pub returns-clause-inverse : goal.returns-clause-inverse
returns-clause-inverse c = is_that_tree c.read_resource.result _ c.read_resource.ensures.ok

pub returns-clause-shape : goal.returns-clause-shape
returns-clause-shape c = λ shape. IfErr-at_err _ shape c.read_resource.ensures.shape refl
