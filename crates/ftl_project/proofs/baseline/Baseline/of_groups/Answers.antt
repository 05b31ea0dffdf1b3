use Rattle.std.proofs.Common.{◌∙◌, [], ap}
use Rattle.lint_findings.specs.View.{findings_view}
use Rattle.ftl_project.specs.Baselines.{lines_of, with_shown}
use Rattle.ftl_project.specs.declared.report.Group.{Group}
use Rattle.ftl_project.proofs.Lines.{each_in_groups, lines_at_last, lines_next}
use Rattle.ftl_project.proofs.baseline.Baseline.of_groups.Goals as goal

pub loop-group-preserved : goal.loop-group-preserved
loop-group-preserved c =
    let lines = lines_of c.loop-group.baseline in
    lines_next c.args.notes (λ (g : Group). findings_view g.found.items) c.args.groups.now [] c.loop-group.group-index c.group-item.result
    lines (lines_of c.add_files.new.self) c.loop-group-test.true c.loop-group.invariant
    (c.in_ok-add_files.ensures ∙ ap (λ fs. with_shown c.args.notes lines (findings_view fs)) c.deref.ensures.value ∙ ap (λ (g : Group). with_shown c.args.notes lines (findings_view g.found.items)) c.group-item.is)

pub returns : goal.returns
returns c =
    lines_at_last c.args.notes (λ (g : Group). findings_view g.found.items) c.args.groups.now [] c.loop-group.group-index
    (lines_of c.loop-group.baseline) c.loop-group-test.false c.loop-group.invariant
    ∙ ap (with_shown c.args.notes []) (each_in_groups c.args.groups.now)
