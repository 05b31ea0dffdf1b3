use Rattle.std.proofs.Common.{◌∙◌, ap, map, rules}
use Rattle.std.proofs.lemmas.Fn.{filter_same}
use Rattle.fluent_lint.specs.Lacking.{is_lacking}
use Rattle.lint_report.specs.ReportView.{summary_view}
use Rattle.lint_report.specs.declared.summary.Summary.{Summary}
use Rattle.fluent_lint.proofs.InOrder.{map-filter}
use Rattle.fluent_lint.proofs.counts.keep_lacking.Goals as goal

pub returns : goal.returns
returns c =
    ap (map summary_view) (filter_same _ (λ (x : Summary). is_lacking (summary_view x)) _ (λ x b f' k. search rules) _ _ c.retain.ensures.filtered)
    ∙ map-filter summary_view is_lacking c.args.counts.now.items
