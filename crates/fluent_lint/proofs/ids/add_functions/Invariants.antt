use Rattle.std.proofs.Common.{◌≡◌, false, take}
use Rattle.fluent_ids.specs.IdsView.{ids_view}
use Rattle.fluent_lint.specs.Known.{functions_by_id}
use Rattle.fluent_meaning.specs.Ids.{with_ids}
use Rattle.fluent_resource.specs.Sources.{texts}
use Rattle.fluent_lint.proofs.ids.add_functions.Given as goal

abbrev pub invariant-loop-id : goal.invariant-loop-id
invariant-loop-id l =
    ids_view (Unit {0}) l.ids ≡ with_ids false (ids_view (Unit {0}) l.initial.ids) (functions_by_id (texts (take l.id-index l.functions)))
