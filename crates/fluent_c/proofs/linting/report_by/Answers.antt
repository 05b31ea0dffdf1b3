use Rattle.std.proofs.Common.{◌∙◌, List, ap}
use Rattle.fluent_lint.specs.FileTiles.{files_view}
use Rattle.fluent_lint.specs.LintReport.{LintReport, lint_report}
use Rattle.fluent_lint.specs.LintView.{output_view}
use Rattle.fluent_lint.specs.Reports.{options_view}
use Rattle.lint_findings.specs.Files.{File}
use Rattle.fluent_c.specs.Linting.{files_given}
use Rattle.fluent_c.proofs.linting.report_by.Goals as goal

pub returns-clause-report : goal.returns-clause-report
returns-clause-report c =
    let by : List File → List File → LintReport = lint_report (options_view c.args.options.now) (output_view c.args.output) in
    c.in_ok-report_files.ensures
    ∙ ap (λ references. by references (files_view c.deref-2.result.now)) (ap files_view c.deref.ensures.value ∙ c.in_ok-references.ensures.read)
    ∙ ap (by (files_given c.args.references.now)) (ap files_view c.deref-2.ensures.value ∙ c.in_ok-files.ensures.read)
