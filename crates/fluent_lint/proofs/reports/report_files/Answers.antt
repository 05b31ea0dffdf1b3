use Rattle.std.proofs.Common.{Bool, List, ap₂, subst}
use Rattle.lint_findings.specs.declared.records.File.{File}
use Rattle.fluent_grammar.specs.Words.{Text}
use Rattle.fluent_lint.specs.LintReport.{LintReport}
use Rattle.fluent_lint.specs.Reports.{IsReportOn}
use Rattle.fluent_lint.proofs.reports.report_files.Goals as goal

pub returns : goal.returns
returns c =
    let options = c.args.options.now in
    let output = c.args.output in
    let report = c.in_ok-report.report in
    let made : Text → Bool → LintReport = λ text failed. record { text = text; has_failed = failed } in
    let is : IsReportOn options output c.args.references.now c.args.files.now report =
    subst (λ (fs : List File). IsReportOn options output c.args.references.now fs report) c.in_ok-files.ensures.files
    (subst (λ (fs : List File). IsReportOn options output fs c.in_ok-files.files.files.now report) c.in_ok-references.ensures.files c.in_ok-report.ensures) in
    ap₂ made is.text is.failed
