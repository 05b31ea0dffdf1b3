use Rattle.std.proofs.Common.{subst, sym}
use Rattle.std.specs.Prelude.{option_copied, option_map}
use Rattle.fluent_run.specs.Dated.{dated_view}
use Rattle.fluent_kept.specs.Answers.{IsReplyOrCall, IsReplyTo}
use Rattle.fluent_kept.specs.Catalogs.{AreDesksOf, catalog_calling_by, catalog_environment}
use Rattle.fluent_kept.proofs.Calling.{called-as}
use Rattle.fluent_kept.proofs.desk.KeptDesk.call.Goals as goal

pub returns-in-Plain : goal.returns-in-Plain
returns-in-Plain c = λ catalog is.
    let desks = subst (AreDesksOf catalog) c.in-Plain.is is.desks in
    let args = c.args in
    let reply = subst (λ env. IsReplyTo env args.id.now args.attribute args.arguments.now c.formatted.result) desks.1.environment c.formatted.ensures in
    subst (λ functions. IsReplyOrCall (catalog_environment catalog) (option_map (λ names. catalog_calling_by catalog names (dated_view args.answers.now)) functions) args.id.now (option_copied args.attribute) (dated_view args.arguments.now) (dated_view args.answers.now) c.formatted.result)
    (sym desks.0) reply

pub returns-in-Calling : goal.returns-in-Calling
returns-in-Calling c = λ catalog is.
    let desks = subst (AreDesksOf catalog) c.in-Calling.is is.desks in
    called-as catalog catalog.functions c.in-Calling.desk c.args.id.now c.args.attribute (dated_view c.args.arguments.now) c.args.answers.now c.called.result desks.0 c.called.ensures
