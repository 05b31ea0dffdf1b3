use Rattle.std.proofs.Common.{subst, sym}
use Rattle.std.specs.Prelude.{option_copied, option_map}
use Rattle.fluent_run.specs.Dated.{dated_view}
use Rattle.fluent_kept.specs.Answers.{AreMetOrNone, AreNone}
use Rattle.fluent_kept.specs.Catalogs.{AreDesksOf, catalog_calling_by, catalog_environment}
use Rattle.fluent_kept.proofs.Calling.{met-as}
use Rattle.fluent_kept.proofs.desk.KeptDesk.calls.Goals as goal

pub returns-in-Plain : goal.returns-in-Plain
returns-in-Plain c = λ catalog is.
    let desks = subst (AreDesksOf catalog) c.in-Plain.is is.desks in
    let args = c.args in
    let id = args.id.now in
    let attribute = option_copied args.attribute in
    let arguments = dated_view args.arguments.now in
    let table = dated_view args.answers.now in
    let none = subst (λ env. AreNone env id attribute c.no_calls.result) desks.1.environment c.no_calls.ensures in
    subst (λ functions. AreMetOrNone (catalog_environment catalog) (option_map (λ names. catalog_calling_by catalog names table) functions) id attribute arguments table c.no_calls.result)
    (sym desks.0) none

pub returns-in-Calling : goal.returns-in-Calling
returns-in-Calling c = λ catalog is.
    let desks = subst (AreDesksOf catalog) c.in-Calling.is is.desks in
    met-as catalog catalog.functions c.in-Calling.desk c.args.id.now c.args.attribute c.args.arguments.now c.args.answers.now c.calls_met.result desks.0 c.calls_met.ensures
