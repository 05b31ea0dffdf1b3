use Rattle.std.proofs.Common.{[], ◌∷◌}
use Rattle.lint_report.specs.View.{in_file}
use Rattle.ftl_project.specs.Baselines.{lines_of}
use Rattle.ftl_project.proofs.Lines.{LinesSoFar}
use Rattle.ftl_project.proofs.baseline.Baseline.add_file.Given as goal

abbrev pub invariant-loop-finding : goal.invariant-loop-finding
invariant-loop-finding l =
    LinesSoFar l.notes (λ f. in_file l.found.file f ∷ []) l.found.findings.items (lines_of l.fn.self) l.finding-index (lines_of l.self)
