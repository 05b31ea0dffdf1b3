use Rattle.lint_findings.specs.Summary.{reference_summary}
use Rattle.lint_findings.specs.View.{file_view, findings_view}
use Rattle.lint_report.proofs.Lists.{SummedSoFar}
use Rattle.lint_report.proofs.files.push_of_reference.Given as goal

abbrev pub invariant-loop-file : goal.invariant-loop-file
invariant-loop-file l =
    SummedSoFar (λ m. reference_summary (findings_view l.findings) (file_view m.file)) l.references l.fn.summaries.items l.file-index l.summaries.items
