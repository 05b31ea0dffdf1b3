use Rattle.std.proofs.Common.{Some, None, ap, sym, ◌∙◌}
use Rattle.std.specs.List.{slice_get}
use Rattle.fluent_grammar.specs.Written as tree
use Rattle.fluent_serializer.proofs.Lined.{begins_with_dot-first}
use Rattle.fluent_ast.proofs.Views.{pattern_view-out}
use Rattle.fluent_ast.specs.View.{element_view}
use Rattle.fluent_serializer.proofs.shapes.begins_with_dot.Goals as goal

pub returns-in-Some : goal.returns-in-Some
returns-in-Some g c =
    let S = g.row.S.Denot in
    let text_of = g.T.Texts.text in
    let pattern = c.args.pattern.now in
    let is = c.in-Some.ensures.value ∙ ap (λ xs. slice_get xs 0) c.deref.ensures.value in
    c.is_dotted_text.ensures
    ∙ begins_with_dot-first (element_view S text_of) pattern.elements.items (Some c.in-Some.first.now) is
    ∙ ap tree.begins_with_dot (sym (pattern_view-out S text_of pattern))

pub returns-in-None : goal.returns-in-None
returns-in-None g c =
    let S = g.row.S.Denot in
    let text_of = g.T.Texts.text in
    let pattern = c.args.pattern.now in
    let is = c.in-None.ensures.value ∙ ap (λ xs. slice_get xs 0) c.deref.ensures.value in
    begins_with_dot-first (element_view S text_of) pattern.elements.items None is
    ∙ ap tree.begins_with_dot (sym (pattern_view-out S text_of pattern))
