use Rattle.std.proofs.Common.{is_some}
use Rattle.fluent_meaning.specs.Ids.{find}
use Rattle.fluent_ids.specs.IdsView.{ids_view}
use Rattle.fluent_ids.proofs.Steps.{seen_more}
use Rattle.fluent_ids.proofs.notices.Notices.look.Goals as goal
use Rattle.fluent_ids.proofs.notices.Notices.look.Goals.{then-not-contains+in_ok-is_new, else-not-contains}

pub returns-else-not-is_new-clause-known : goal.returns-else-not-is_new-clause-known
returns-else-not-is_new-clause-known g c = λ other.
    elim c.if-not-contains.branch [
      | then-not-contains+in_ok-is_new w ↦ rw w.self-is (seen_more (is_some (find (ids_view g.row.F.Denot c.args.ids.now) other)) c.args.self.now.seen w.insert.new.self c.args.id w.in_ok-is_new.ensures.updates other)
      | else-not-contains w ↦ cc (w.is_new-is, c.if-not-is_new.false)
    ]
