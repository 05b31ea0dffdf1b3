use Rattle.fluent_ast.specs.View.{element_view}
use Rattle.fluent_parsed.proofs.Ends.{last_set}
use Rattle.fluent_parsed.proofs.kept.trim_last.Goals as goal

pub returns-in-Some : goal.returns-in-Some
returns-in-Some g c =
    let at = c.in-Some.ensures.item in
    last_set (element_view g.row.S.Denot g.T.Texts.text) c.args.elements.now c.in-Some.last.now c.trim.new.element at.3.0 at.1 c.trim.ensures
