use Rattle.std.proofs.Common.{◌≡◌, ◌++◌, map, take, drop}
use Rattle.fluent_ast.specs.View.{element_view}
use Rattle.fluent_parsed.specs.Elements.{dedented_from}
use Rattle.fluent_parsed.proofs.dedent.dedent_all.Given as goal

abbrev pub invariant-loop-element : goal.invariant-loop-element
invariant-loop-element g l =
    let shown = map (element_view g.row.S.Denot g.T.Texts.text) l.elements in
    take l.element-index shown ++ dedented_from l.line l.common_indent (drop l.element-index shown)
    ≡ dedented_from l.begins_line l.common_indent (map (element_view g.row.S.Denot g.T.Texts.text) l.fn.elements)
