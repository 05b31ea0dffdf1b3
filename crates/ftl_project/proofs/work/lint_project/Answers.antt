use Rattle.std.proofs.lemmas.Result.{IfOk-weaker}
use Rattle.ftl_project.specs.Ends.{IsReportFor, IsReportKnowing, written_in}
use Rattle.ftl_project.proofs.work.lint_project.Goals as goal

pub returns-clause-report : goal.returns-clause-report
returns-clause-report g c =
    let lint = c.args.lint.now in
    let known = c.known_by-known.result in
    IfOk-weaker c.with_project.result (λ end. IsReportKnowing lint known (written_in end)) (λ end. IsReportFor lint (written_in end))
    (λ end is. record { known = known; with = is }) c.with_project.ensures.asked
