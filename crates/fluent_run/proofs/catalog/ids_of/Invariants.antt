use Rattle.std.proofs.Common.{◌≡◌, take}
use Rattle.fluent_run.specs.DeskView.{ids_added, plain_ids}
use Rattle.fluent_run.proofs.catalog.ids_of.Given as goal

-- the ids of the resources so far
abbrev pub invariant-loop-resource : goal.invariant-loop-resource
invariant-loop-resource g l = plain_ids l.ids ≡ ids_added l.overriding (take l.resource-index l.resources)
