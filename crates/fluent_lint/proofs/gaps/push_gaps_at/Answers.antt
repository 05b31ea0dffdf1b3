use Rattle.std.proofs.Common.{◌∙◌, ◌++◌, ap, map, sym, append-nil}
use Rattle.std.proofs.lemmas.List.{drop_all}
use Rattle.fluent_resource.specs.Sources.{texts}
use Rattle.lint_findings.specs.View.{finding_view}
use Rattle.fluent_lint.specs.Pairs.{gaps_from}
use Rattle.fluent_lint.proofs.Gapped.{one_gap}
use Rattle.fluent_lint.proofs.gaps.push_gaps_at.Goals as goal

pub loop-id-preserved : goal.loop-id-preserved
loop-id-preserved c = λ ps has.
    one_gap ps c.args.ids.now c.loop-id.id-index _ c.loop-id-test.true c.loop-id.at c.unwrap_or-at.result c.first-place.result
    c.loop-id.findings.items c.push_gap.new.findings.items _ (c.first-place.ensures ∙ has _) c.unwrap_or-at.ensures c.in_ok-push_gap.ensures
    (c.loop-id.invariant ps has)

pub returns : goal.returns
returns c = λ ps has.
    let now = map finding_view c.loop-id.findings.items in
    sym (append-nil now)
    ∙ ap (λ l. now ++ gaps_from ps c.loop-id.at (texts l)) (sym (drop_all c.loop-id.id-index c.args.ids.now c.loop-id-test.false))
    ∙ c.loop-id.invariant ps has
