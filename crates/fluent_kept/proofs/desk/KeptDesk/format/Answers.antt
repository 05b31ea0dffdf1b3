use Rattle.std.proofs.Common.{subst}
use Rattle.std.specs.Prelude.{IfSome}
use Rattle.fluent_kept.specs.Answers.{IsReplyTo}
use Rattle.fluent_kept.specs.Catalogs.{IsPlainOf}
use Rattle.fluent_kept.proofs.desk.KeptDesk.format.Goals as goal

pub returns-in-Some : goal.returns-in-Some
returns-in-Some c = λ catalog is.
    let desk : IsPlainOf catalog c.in-Some.desk.now = subst (λ found. IfSome found (λ d. IsPlainOf catalog d.now)) c.in-Some.is (c.plain.ensures catalog is) in
    subst (λ env. IsReplyTo env c.args.id.now c.args.attribute c.args.arguments.now c.formatted.result) desk.environment c.formatted.ensures
