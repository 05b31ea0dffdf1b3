use Rattle.std.proofs.Common.{ap, sym, ◌∙◌}
use Rattle.fluent_serializer.proofs.Lined.{is_long, is_long-placeable}
use Rattle.fluent_ast.proofs.Views.{element_view-Placeable}
use Rattle.fluent_ast.specs.View.{element_view, expression_view}
use Rattle.fluent_serializer.proofs.shapes.is_long.Goals as goal

pub returns-in-Placeable : goal.returns-in-Placeable
returns-in-Placeable g c =
    let S = g.row.S.Denot in
    let text_of = g.T.Texts.text in
    c.is_select.ensures text_of
    ∙ is_long-placeable (expression_view S text_of c.in-Placeable.expression)
    ∙ ap is_long (sym (ap (element_view S text_of) c.in-Placeable.is ∙ element_view-Placeable S text_of c.in-Placeable.expression))
