use Rattle.std.proofs.Common.{◌∙◌}
use Rattle.fluent_run.proofs.desk.Desk+M.new.Goals as goal

pub returns : goal.returns
returns g c =
    let made = c.of.ensures in
    record { ids = made.ids ∙ c.in_ok-ids.ensures; resources = made.resources; settings = made.settings; plurals = made.plurals; stack = made.stack }
