use Rattle.std.proofs.Common.{ap, ◌∙◌, map}
use Rattle.fluent_ast.specs.View.{attribute_view}
use Rattle.fluent_ast.proofs.Views.{message_view_same}
use Rattle.fluent_ast.proofs.Message.try_clone.Goals as goal

pub returns : goal.returns
returns g c =
    let S = g.row.S.Denot in
    let text_of = g.S.Slice.text in
    let attributes = c.in_ok-clone_attributes.ensures ∙ ap (map (attribute_view S text_of)) c.deref.ensures.value in
    message_view_same S text_of (record { id = c.in_ok-try_clone.field-0; value = c.in_ok-clone_value.field-0; attributes = c.in_ok-clone_attributes.field-0; comment = c.in_ok-clone_comment.field-0 }) c.args.self.now c.in_ok-try_clone.ensures c.in_ok-clone_value.ensures attributes c.in_ok-clone_comment.ensures
