use Rattle.std.proofs.Common.{subst}
use Rattle.std.specs.Prelude.{IfSome}
use Rattle.fluent_run.specs.ResourceIds.{all_by_id}
use Rattle.fluent_kept.specs.Answers.{AreMessages}
use Rattle.fluent_kept.specs.Catalogs.{IsPlainOf, catalog_environment}
use Rattle.fluent_kept.proofs.desk.KeptDesk.messages.Goals as goal

pub returns-in-Some : goal.returns-in-Some
returns-in-Some c = λ catalog is.
    let desk : IsPlainOf catalog c.in-Some.desk.now = subst (λ found. IfSome found (λ d. IsPlainOf catalog d.now)) c.in-Some.is (c.plain.ensures catalog is) in
    subst (λ entries. AreMessages (catalog_environment catalog) entries c.messages_of.result) desk.entries
    (subst (λ env. AreMessages env (all_by_id c.in-Some.desk.now.desk.resources.now) c.messages_of.result) desk.environment c.messages_of.ensures)
