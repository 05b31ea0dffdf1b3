use Rattle.std.proofs.Common.{◌+◌, ◌++◌, ◌∙◌, ap, sym, arith, map, set, take, drop}
use Rattle.std.proofs.lemmas.List.{map-set, length-map}
use Rattle.std.proofs.Math.ListN.{get_or-map}
use Rattle.fluent_ast.specs.View.{element_view}
use Rattle.fluent_parsed.specs.Elements.{line_behind, dedented_by, dedented_from}
use Rattle.fluent_parsed.proofs.Dedenting.{dedent_step}
use Rattle.fluent_parsed.proofs.dedent.dedent_all.Goals as goal

pub loop-element-preserved : goal.loop-element-preserved
loop-element-preserved g c =
    let view = element_view g.row.S.Denot g.T.Texts.text in
    let es = c.loop-element.elements in
    let i = c.loop-element.element-index in
    let d = c.element-item.result in
    let y = view c.dedent.new.element in
    let common = c.args.common_indent in
    let stored = map-set view es i c.dedent.new.element in
    let got = get_or-map view es i d in
    ap (λ z. take (i + 1) z ++ dedented_from c.in_ok-line.line common (drop (i + 1) z)) stored
    ∙ ap (λ b. take (i + 1) (set (map view es) i y) ++ dedented_from b common (drop (i + 1) (set (map view es) i y))) (c.in_ok-line.ensures.line ∙ ap line_behind (sym got))
    ∙ dedent_step (map view es) i (view d) y c.loop-element.line common (omega (arith, length-map es view, c.loop-element-test.true)) (c.in_ok-line.ensures.element ∙ ap (dedented_by c.loop-element.line common) (sym got))
    ∙ c.loop-element.invariant
