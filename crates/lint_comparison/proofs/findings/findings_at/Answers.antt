use Rattle.std.proofs.Common.{◌∙◌, ap, map}
use Rattle.std.proofs.lemmas.List.{take_all}
use Rattle.lint_findings.specs.DifferenceView.{difference_view}
use Rattle.lint_findings.specs.ComparisonFindings.{difference_finding}
use Rattle.lint_comparison.proofs.FindingsAdded.{next_finding}
use Rattle.lint_comparison.proofs.findings.findings_at.Goals as goal

pub loop-difference-preserved : goal.loop-difference-preserved
loop-difference-preserved c = λ known has.
    next_finding c.args.source.now c.args.id.now c.args.text.now known c.args.differences.now c.loop-difference.difference-index _ c.loop-difference-test.true
    c.loop-difference.findings.items c.push.new.self.items c.in_ok-finding_at.field-0 c.in_ok-push.ensures.items (c.in_ok-finding_at.ensures known has) (c.loop-difference.invariant known has)

pub returns : goal.returns
returns c = λ known has.
    let all = take_all c.loop-difference.difference-index c.args.differences.now c.loop-difference-test.false in
    c.loop-difference.invariant known has ∙ ap (λ ds. map (difference_finding c.args.source.now c.args.id.now c.args.text.now known) (map difference_view ds)) all
