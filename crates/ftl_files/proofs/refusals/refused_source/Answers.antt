use Rattle.std.proofs.Common.{◌≡◌, ◌∙◌, ap, string_bytes, subst}
use Rattle.fluent_tidy.specs.TidyText.{plain, with_line_feeds}
use Rattle.ftl_files.specs.Tidying.{IsReport}
use Rattle.ftl_files.proofs.refusals.refused_source.Goals as goal

pub returns : goal.returns
returns c =
    let source = c.args.source.now in
    let report = string_bytes c.in_ok-report.report in
    let same : c.as_str.result.now ≡ plain source = c.as_str.ensures.value ∙ c.in_ok-plain.ensures ∙ ap with_line_feeds c.without_mark.ensures in
    record {
      report = report;
      is = c.end_for.ensures;
      reported = subst (λ z. IsReport c.args.name.now z c.args.reason report) same c.in_ok-report.ensures;
    }
