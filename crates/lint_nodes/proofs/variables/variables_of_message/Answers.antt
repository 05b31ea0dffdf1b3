use Rattle.std.proofs.Common.{subst}
use Rattle.fluent_ast.specs.Borrowed.{message_of}
use Rattle.fluent_ids.specs.IdsView.{ids_view}
use Rattle.lint_nodes.specs.HasReached.{AreOwn}
use Rattle.lint_nodes.proofs.OwnVariables.{own_are_all}
use Rattle.lint_nodes.proofs.variables.variables_of_message.Goals as goal

pub returns-in-Some : goal.returns-in-Some
returns-in-Some g c =
    let m = message_of c.args.message.now in
    own_are_all (ids_view g.row.F.Denot c.args.ids.now) c.args.id.now m c.requires c.in-Some.variables (subst (AreOwn m) c.in-Some.is c.in_ok-variables.ensures)
