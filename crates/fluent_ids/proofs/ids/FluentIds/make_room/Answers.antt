use Rattle.fluent_ids.proofs.Sorted.{reordered}
use Rattle.fluent_ids.proofs.ids.FluentIds.make_room.Goals as goal

pub returns-clause-same : goal.returns-clause-same
returns-clause-same g c = reordered g.row.F.Denot c.args.self.now.entries c.reserve.new.self c.reserve.ensures.entries
