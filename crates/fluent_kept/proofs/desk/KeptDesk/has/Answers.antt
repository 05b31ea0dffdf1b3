use Rattle.std.proofs.Common.{ap, subst, sym, ◌∙◌}
use Rattle.std.specs.Prelude.{is_some, option_copied}
use Rattle.fluent_answers.specs.Answers.{pattern_asked}
use Rattle.fluent_ids.specs.Found.{message_in}
use Rattle.fluent_meaning.specs.Ids.{find}
use Rattle.fluent_kept.specs.Answers.{IsFound}
use Rattle.fluent_kept.specs.Catalogs.{AreDesksOf, catalog_environment}
use Rattle.fluent_kept.proofs.Messages.{calling-found, is-found}
use Rattle.fluent_kept.proofs.desk.KeptDesk.has.Goals as goal

pub returns-in-Plain : goal.returns-in-Plain
returns-in-Plain c = λ catalog is.
    let desks = subst (AreDesksOf catalog) c.in-Plain.is is.desks in
    let env = catalog_environment catalog in let id = c.args.id.now in let attribute = option_copied c.args.attribute in
    subst (IsFound env id attribute) (sym c.found.ensures)
    (is-found env id attribute c.has.result c.has_message.result
    (c.has.ensures ∙ ap (λ ids. is_some (pattern_asked attribute (find ids id))) desks.1.ids)
    (c.has_message.ensures ∙ ap (λ ids. is_some (message_in (find ids id))) desks.1.ids))

pub returns-in-Calling : goal.returns-in-Calling
returns-in-Calling c = λ catalog is.
    let desks = subst (AreDesksOf catalog) c.in-Calling.is is.desks in
    let env = catalog_environment catalog in let id = c.args.id.now in let attribute = option_copied c.args.attribute in
    let same = calling-found catalog catalog.functions c.in-Calling.made id attribute desks.0 in
    subst (IsFound env id attribute) (sym c.found-in-Calling.ensures)
    (is-found env id attribute c.has-in-Calling.result c.has_message-in-Calling.result (c.has-in-Calling.ensures ∙ same.0) (c.has_message-in-Calling.ensures ∙ same.1))
