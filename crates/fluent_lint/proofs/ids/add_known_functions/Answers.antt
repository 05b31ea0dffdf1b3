use Rattle.std.proofs.lemmas.Result.{on_ok_weaker}
use Rattle.fluent_ids.specs.IdsView.{ids_view}
use Rattle.fluent_resource.specs.Sources.{texts}
use Rattle.fluent_lint.proofs.Lists.{functions_added}
use Rattle.fluent_lint.proofs.ids.add_known_functions.Goals as goal

pub returns : goal.returns
returns c =
    on_ok_weaker c.add_functions-2.result
    (functions_added (texts c.args.functions.now) (texts c.args.called.now) (ids_view (Unit {0}) c.add_number.new.ids) (ids_view (Unit {0}) c.add_functions.new.ids) (ids_view (Unit {0}) c.add_functions-2.new.ids)
    c.in_ok-add_number.ensures c.in_ok-add_functions.ensures)
    c.add_functions-2.ensures
