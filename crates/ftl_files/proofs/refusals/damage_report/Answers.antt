use Rattle.std.proofs.Common.{◌∙◌, ap, sym, take}
use Rattle.std.proofs.lemmas.List.{take-map}
use Rattle.std.proofs.lemmas.Result.{IfOk-weaker}
use Rattle.lint_findings.specs.View.{finding_view}
use Rattle.ftl_files.specs.Tidying.{findings_report}
use Rattle.ftl_files.proofs.refusals.damage_report.Goals as goal

pub returns : goal.returns
returns c =
    IfOk-weaker c.report_all.result _ _
    (λ report h. h ∙ ap (findings_report c.args.name.now c.args.source.now)
    (rw c.truncate.ensures.items (sym (take-map finding_view 1 c.in_ok-findings.findings.items) ∙ ap (take 1) c.in_ok-findings.ensures)))
    c.report_all.ensures
