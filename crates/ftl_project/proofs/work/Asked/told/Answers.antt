use Rattle.std.proofs.Common.{IfOk, subst, sym}
use Rattle.std.proofs.lemmas.Result.{IfOk-weaker}
use Rattle.ftl_arguments.specs.CommandView.{project_lint_view}
use Rattle.ftl_project.specs.Ends.{IsAsked, IsReportKnowing}
use Rattle.ftl_project.specs.ProjectReports.{IsReportOn, seen_by}
use Rattle.ftl_project.specs.Reports.{report_view}
use Rattle.ftl_project.proofs.work.Asked.told.Goals as goal

pub returns-in-Lint : goal.returns-in-Lint
returns-in-Lint c =
    let lint = c.in-Lint.lint.now in
    let known = c.in-Lint.known.now in
    let seen = seen_by c.args.self.now c.args.project.now c.args.references.now c.in_ok-linted.linted in
    subst (λ work. IfOk c.report.result (λ made. IsAsked work (report_view made))) (sym c.in-Lint.is)
    (IfOk-weaker c.report.result (λ made. IsReportOn (project_lint_view lint) known seen (report_view made)) (λ made. IsReportKnowing lint known (report_view made))
    (λ made is. record { seen = seen; is = is }) c.report.ensures)
