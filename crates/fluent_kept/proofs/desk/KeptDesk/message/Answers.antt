use Rattle.std.proofs.Common.{subst}
use Rattle.std.specs.Prelude.{IfSome}
use Rattle.fluent_kept.specs.Found.{IsThereBy}
use Rattle.fluent_kept.proofs.Written.{there-by}
use Rattle.fluent_kept.proofs.desk.KeptDesk.message.Goals as goal

pub returns-in-Some : goal.returns-in-Some
returns-in-Some c = λ catalog is.
    let found = c.args.self.now.found in
    there-by catalog found c.args.id.now c.in-Some.message is.found (subst (λ r. IfSome r (IsThereBy found c.args.id.now)) c.in-Some.is c.at.ensures)
