use Rattle.std.proofs.Common.{◌∙◌, ap, sym, arith}
use Rattle.std.proofs.lemmas.List.{take-map}
use Rattle.fluent_ast.specs.View.{element_view}
use Rattle.fluent_parsed.specs.Elements.{is_blank}
use Rattle.fluent_parsed.proofs.Ends.{blank_dropped, not_blank_kept}
use Rattle.fluent_parsed.proofs.kept.kept_len.Goals as goal

pub loop-kept-preserved : goal.loop-kept-preserved
loop-kept-preserved g c =
    let view = element_view g.row.S.Denot g.T.Texts.text in
    let b = ap (λ e. is_blank (view e)) (sym c.index-elements-kept.is) ∙ sym c.is_blank.ensures ∙ c.if-is_blank.true in
    record {
      within = omega arith;
      same = blank_dropped view c.args.elements.now c.loop-kept.kept c.index-elements-kept.result c.loop-kept-test.true c.loop-kept.invariant.within b ∙ c.loop-kept.invariant.same;
    }

pub returns-else-is_blank-clause-kept : goal.returns-else-is_blank-clause-kept
returns-else-is_blank-clause-kept g c =
    let view = element_view g.row.S.Denot g.T.Texts.text in
    let b = ap (λ e. is_blank (view e)) (sym c.index-elements-kept.is) ∙ sym c.is_blank.ensures ∙ c.if-is_blank.false in
    take-map view c.loop-kept.kept c.args.elements.now
    ∙ sym (not_blank_kept view c.args.elements.now c.loop-kept.kept c.index-elements-kept.result c.loop-kept-test.true c.loop-kept.invariant.within b)
    ∙ c.loop-kept.invariant.same
