use Rattle.fluent_ast.proofs.Views.{inline_view-MessageReference_same}
use Rattle.fluent_ast.proofs.copies.clone_message_reference.Goals as goal

pub returns : goal.returns
returns g c = inline_view-MessageReference_same g.row.S.Denot g.T.Texts.text _ c.args.id.now _ c.args.attribute.now c.in_ok-id.ensures c.in_ok-attribute.ensures
