use Rattle.std.proofs.Common.{[]}
use Rattle.lint_findings.specs.View.{findings_view}
use Rattle.ftl_project.specs.Baselines.{lines_of}
use Rattle.ftl_project.specs.declared.report.Group.{Group}
use Rattle.ftl_project.proofs.Lines.{LinesSoFar}
use Rattle.ftl_project.proofs.baseline.Baseline.of_groups.Given as goal

abbrev pub invariant-loop-group : goal.invariant-loop-group
invariant-loop-group l = LinesSoFar l.notes (λ (g : Group). findings_view g.found.items) l.groups [] l.group-index (lines_of l.baseline)
