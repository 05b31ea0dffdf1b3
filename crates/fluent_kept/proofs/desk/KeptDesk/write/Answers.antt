use Rattle.std.proofs.Common.{option_copied, subst, sym}
use Rattle.fluent_kept.specs.Answers.{IsReplyOrCall}
use Rattle.fluent_kept.specs.Catalogs.{AreDesksOf, catalog_calling, catalog_environment}
use Rattle.fluent_kept.specs.Found.{message_told}
use Rattle.fluent_kept.specs.Writing.{IsGivenBy}
use Rattle.fluent_kept.proofs.Calling.{called-as}
use Rattle.fluent_kept.proofs.Written.{plain-given}
use Rattle.fluent_kept.proofs.desk.KeptDesk.write.Goals as goal

pub returns-in-Some : goal.returns-in-Some
returns-in-Some c = λ catalog is.
    let args = c.args in
    let desks = subst (AreDesksOf catalog) c.in-Plain.is is.desks in
    let m = message_told c.in-Some.message in
    plain-given catalog args.id.now args.attribute args.arguments.now m c.replied.result (sym (c.in-Some.ensures catalog is)) desks.0
    (subst (λ env. IsGivenBy env m args.attribute args.arguments.now c.replied.result) desks.1.environment c.replied.ensures)

pub returns-in-Calling : goal.returns-in-Calling
returns-in-Calling c = λ catalog is.
    let args = c.args in
    let desks = subst (AreDesksOf catalog) c.in-Calling.is is.desks in
    subst (λ table. IsReplyOrCall (catalog_environment catalog) (catalog_calling catalog table) args.id.now (option_copied args.attribute) args.arguments.now table c.called.result)
    c.new-answers.ensures
    (called-as catalog catalog.functions c.in-Calling.made args.id.now args.attribute args.arguments.now c.new-answers.result c.called.result desks.0 c.called.ensures)
