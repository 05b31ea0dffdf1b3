use Rattle.std.proofs.Common.{subst, ◌∙◌}
use Rattle.std.specs.Prelude.{IfSome}
use Rattle.fluent_kept.specs.Answers.{AreVariables}
use Rattle.fluent_kept.specs.Catalogs.{IsPlainOf}
use Rattle.fluent_kept.proofs.desk.KeptDesk.variables.Goals as goal

pub returns-in-Some : goal.returns-in-Some
returns-in-Some c = λ catalog is.
    let desk : IsPlainOf catalog c.in-Some.made.now = subst (λ found. IfSome found (λ d. IsPlainOf catalog d.now)) c.in-Some.is (c.plain.ensures catalog is) in
    subst (λ ids. AreVariables ids c.args.id.now c.variable_names.result) (c.ids.ensures ∙ desk.ids) c.variable_names.ensures
