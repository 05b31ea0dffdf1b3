use Rattle.std.proofs.Common.{◌≡◌, ℕ, List, take, unwrap_or}
use Rattle.std.specs.HashMap.{get_by_text}
use Rattle.lint_findings.specs.Summary.{finding_count}
use Rattle.lint_findings.specs.View.{findings_view}
use Rattle.lint_report.proofs.counts.counts_by_name.Given as goal

abbrev pub invariant-loop-file : goal.invariant-loop-file
invariant-loop-file l =
    (q : List ℕ) → unwrap_or (get_by_text l.counts q) 0 ≡ finding_count q l.code (findings_view (take l.file-index l.findings))
