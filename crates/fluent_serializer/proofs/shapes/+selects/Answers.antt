use Rattle.std.proofs.Common.{ap, sym, ◌∙◌}
use Rattle.fluent_grammar.specs.Written as tree
use Rattle.fluent_ast.proofs.Views.{expression_view-Inline, inline_view-Placeable}
use Rattle.fluent_ast.specs.View.{expression_view, inline_view}
use Rattle.fluent_serializer.proofs.shapes.+selects.Goals as goal

pub is_select-returns-in-Inline : goal.is_select-returns-in-Inline
is_select-returns-in-Inline g t c = λ text_of.
    let S = g.row.S.Denot in
    c.is_select_inline.ensures text_of
    ∙ ap tree.is_select (sym (ap (expression_view S text_of) c.in-Inline.is ∙ expression_view-Inline S text_of c.in-Inline.inline))

pub is_select_inline-returns-in-Placeable : goal.is_select_inline-returns-in-Placeable
is_select_inline-returns-in-Placeable g t c = λ text_of.
    let S = g.row.S.Denot in
    c.is_select.ensures text_of
    ∙ ap (λ e. tree.is_select (expression_view S text_of e)) c.deref.ensures
    ∙ ap tree.is_select_inline (sym (ap (inline_view S text_of) c.in-Placeable.is ∙ inline_view-Placeable S text_of c.in-Placeable.expression))
