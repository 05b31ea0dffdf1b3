use Rattle.std.proofs.Common.{subst}
use Rattle.std.specs.Prelude.{IfSome}
use Rattle.fluent_kept.specs.Answers.{AreAttributes}
use Rattle.fluent_kept.specs.Catalogs.{IsPlainOf}
use Rattle.fluent_kept.proofs.desk.KeptDesk.attributes.Goals as goal

pub returns-in-Some : goal.returns-in-Some
returns-in-Some c = λ catalog is.
    let desk : IsPlainOf catalog c.in-Some.desk.now = subst (λ found. IfSome found (λ d. IsPlainOf catalog d.now)) c.in-Some.is (c.plain.ensures catalog is) in
    subst (λ env. AreAttributes env c.args.id.now c.attributes_of.result) desk.environment c.attributes_of.ensures
