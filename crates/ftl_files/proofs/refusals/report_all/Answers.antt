use Rattle.std.proofs.Common.{◌∙◌}
use Rattle.std.proofs.lemmas.Result.{IfOk-weaker}
use Rattle.ftl_files.proofs.ReportLemmas.{one_file}
use Rattle.ftl_files.proofs.refusals.report_all.Goals as goal

pub returns : goal.returns
returns c =
    IfOk-weaker c.report.result _ _ (λ report h. h ∙ one_file (record { name = c.args.name; source = c.args.source }) c.args.findings) c.report.ensures
