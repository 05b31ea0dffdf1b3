use Rattle.std.proofs.Common.{◌∙◌, sym, ap}
use Rattle.std.proofs.lemmas.Result.{on_ok_weaker}
use Rattle.fluent_ast.specs.Borrowed.{message_of}
use Rattle.fluent_ids.specs.Found.{lent_message}
use Rattle.fluent_ids.specs.IdsView.{ids_view}
use Rattle.fluent_meaning.specs.Ids.{find}
use Rattle.lint_nodes.proofs.References.{found_gets, not_found_gets}
use Rattle.lint_nodes.proofs.reached.Reached.add_referred.Goals as goal

pub returns-in-Some : goal.returns-in-Some
returns-in-Some g c =
    on_ok_weaker c.add_message.result
    (found_gets c.args.self.now c.add_message.new.self (find (ids_view g.row.F.Denot c.args.ids.now) c.args.id.now) (message_of c.in-Some.message.now) (sym c.get_entry_message.ensures ∙ ap lent_message c.in-Some.is))
    c.add_message.ensures

pub returns-in-None : goal.returns-in-None
returns-in-None g c = not_found_gets c.args.self.now (find (ids_view g.row.F.Denot c.args.ids.now) c.args.id.now) (sym c.get_entry_message.ensures ∙ ap lent_message c.in-None.is)
