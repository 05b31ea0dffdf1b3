use Rattle.std.proofs.Common.{subst}
use Rattle.fluent_kept.specs.Catalogs.{AreDesksOf}
use Rattle.fluent_kept.proofs.desk.KeptDesk.plain.Goals as goal

pub returns-in-Plain : goal.returns-in-Plain
returns-in-Plain c = λ catalog is. (subst (AreDesksOf catalog) c.in-Plain.is is.desks).1
