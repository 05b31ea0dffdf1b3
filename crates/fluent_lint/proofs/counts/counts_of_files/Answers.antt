use Rattle.std.proofs.Common.{◌≡◌, ◌∙◌, List, ap, map, subst}
use Rattle.std.specs.Prelude.{IfOk}
use Rattle.lint_findings.specs.View.{findings_view}
use Rattle.lint_findings.specs.Files.{File}
use Rattle.lint_findings.specs.Summary.{summaries}
use Rattle.fluent_lint.specs.FileTiles.{files_of, files_view}
use Rattle.lint_report.specs.ReportView.{summary_view}
use Rattle.lint_report.specs.Counted as counted
use Rattle.fluent_lint.proofs.counts.counts_of_files.Goals as goal

pub returns : goal.returns
returns c =
    let found = findings_view c.args.found.now in
    let references = ap counted.files_of c.deref.ensures.value ∙ c.in_ok-references.ensures.files in
    let files = ap counted.files_of c.deref-2.ensures.value ∙ c.in_ok-files.ensures.files in
    subst (λ (rs : List File). IfOk c.summaries.result (λ counts. map summary_view counts.items ≡ summaries rs (files_view (files_of c.args.files.now)) found)) references
    (subst (λ (fs : List File). IfOk c.summaries.result (λ counts. map summary_view counts.items ≡ summaries (counted.files_of c.deref.result.now) fs found)) files c.summaries.ensures)
