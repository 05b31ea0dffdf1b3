use Rattle.std.proofs.Common.{refl, ◌∙◌}
use Rattle.fluent_calls.proofs.desk.FunctionDesk.new.Goals as goal

pub returns : goal.returns
returns g c =
    let made = c.of-desk.ensures in
    record {
      desk = record { ids = made.ids ∙ c.in_ok-ids.ensures; resources = made.resources; settings = made.settings; plurals = made.plurals; stack = made.stack };
      names = refl;
      dates = refl;
    }
