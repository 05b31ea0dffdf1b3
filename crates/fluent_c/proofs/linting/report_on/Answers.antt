use Rattle.std.proofs.Common.{◌≡◌, ◌∙◌, List, Some, ap}
use Rattle.std.proofs.lemmas.Result.{IfOk-weaker}
use Rattle.fluent_grammar.specs.Words.{Text}
use Rattle.fluent_lint.specs.LintReport.{LintReport, Output, lint_report}
use Rattle.fluent_lint.specs.LintView.{output_view, report_view}
use Rattle.fluent_resource.specs.Sources.{texts}
use Rattle.lint_findings.specs.Findings.{Options}
use Rattle.fluent_c.specs.Linting.{options_asked, output_asked, files_given, report_in}
use Rattle.fluent_c.proofs.Reports.{asked_by}
use Rattle.fluent_c.proofs.linting.report_on.Goals as goal

pub returns-clause-report : goal.returns-clause-report
returns-clause-report c =
    let asked = c.args.options.now in
    let plurals = c.in_ok-plurals.plurals in
    let report : Options → Output → LintReport = λ o u. lint_report o u (files_given c.args.references.now) (files_given c.args.files.now) in
    let with_functions : List Text → Options = λ functions. record { functions = functions; plurals = plurals } in
    let functions : with_functions (texts c.deref.result.now) ≡ options_asked asked plurals =
    ap (λ these. with_functions (texts these)) c.deref.ensures.value ∙ ap with_functions c.in_ok-functions.ensures.read in
    IfOk-weaker c.report_by.result
    (λ made. report_view made ≡ report (with_functions (texts c.deref.result.now)) (output_view c.output_of.result))
    (λ made. report_in asked c.args.files.now c.args.references.now ≡ Some (report_view made))
    (λ made is. asked_by report (options_asked asked) (output_asked asked) plurals (with_functions (texts c.deref.result.now)) (output_view c.output_of.result) {made = report_view made}
    c.in_ok-plurals.ensures.known is functions c.output_of.ensures)
    c.report_by.ensures.report
