use Rattle.lint_findings.specs.View.{file_findings_view}
use Rattle.ftl_project.specs.Baselines.{lines_of}
use Rattle.ftl_project.proofs.Lines.{LinesSoFar}
use Rattle.ftl_project.proofs.baseline.Baseline.add_files.Given as goal

abbrev pub invariant-loop-file : goal.invariant-loop-file
invariant-loop-file l = LinesSoFar l.notes file_findings_view l.found (lines_of l.fn.self) l.file-index (lines_of l.self)
