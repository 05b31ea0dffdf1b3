use Rattle.std.proofs.Common.{ap, sym, ◌∙◌}
use Rattle.std.specs.List.{list_any}
use Rattle.fluent_grammar.specs.Written as tree
use Rattle.fluent_serializer.proofs.Lined.{is_long, is_many_lined-any}
use Rattle.fluent_ast.proofs.Views.{pattern_view-out}
use Rattle.fluent_ast.specs.View.{element_view}
use Rattle.fluent_serializer.proofs.shapes.is_many_lined.Goals as goal

pub returns : goal.returns
returns g c =
    let S = g.row.S.Denot in
    let text_of = g.T.Texts.text in
    c.is_some_long.ensures
    ∙ ap (list_any (λ x. is_long (element_view S text_of x))) c.deref.ensures.value
    ∙ is_many_lined-any (element_view S text_of) c.args.pattern.now.elements.items
    ∙ ap tree.is_many_lined (sym (pattern_view-out S text_of c.args.pattern.now))
