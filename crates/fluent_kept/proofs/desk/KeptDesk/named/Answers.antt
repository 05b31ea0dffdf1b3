use Rattle.std.proofs.Common.{ap, subst, ◌∙◌}
use Rattle.fluent_ids.specs.Found.{message_in}
use Rattle.fluent_meaning.specs.Ids.{find}
use Rattle.fluent_kept.specs.Catalogs.{AreDesksOf}
use Rattle.fluent_kept.proofs.Messages.{calling-message}
use Rattle.fluent_kept.proofs.desk.KeptDesk.named.Goals as goal

pub returns-in-Calling : goal.returns-in-Calling
returns-in-Calling c = λ catalog is.
    let desks = subst (AreDesksOf catalog) c.in-Calling.is is.desks in
    c.message_named-in-Calling.ensures
    ∙ ap (λ ids. message_in (find ids c.args.id.now)) c.ids-in-Calling.ensures
    ∙ calling-message catalog catalog.functions c.in-Calling.made c.args.id.now desks.0
