use Rattle.std.proofs.Common.{◌∙◌, ap, ap₂}
use Rattle.fluent_serve.specs.Text.{Text}
use Rattle.fluent_lint.specs.FileTiles.{files_view}
use Rattle.fluent_lint.specs.LintReport.{lint_report}
use Rattle.fluent_lint.specs.LintView.{output_view}
use Rattle.ftl_arguments.specs.CommandView.{lint_view}
use Rattle.ftl_files.specs.declared.reported.Reported.{Reported}
use Rattle.ftl_command.specs.Linted.{Unread, options_asked, output_asked}
use Rattle.ftl_command.proofs.linting.report_sources.Goals as goal

pub returns : goal.returns
returns c =
    let lint = lint_view c.args.lint.now in
    let options = options_asked lint c.args.plurals in
    let references = files_view c.deref.result.now in
    let files = files_view c.deref-2.result.now in
    let unread : Text → Reported → Unread = λ errors reported. record { errors = errors; reported = reported } in (
      c.in_ok-report.ensures
          ∙ ap (λ these. lint_report these (output_view c.output_of.result) references files) c.options_of-options.ensures
          ∙ ap (λ these. lint_report options these references files) c.output_of.ensures
          ∙ ap₂ (lint_report options (output_asked lint)) (ap files_view c.deref.ensures.value ∙ c.in_ok-references.ensures) (ap files_view c.deref-2.ensures.value ∙ c.in_ok-files.ensures),
      ap₂ unread c.in_ok-errors.ensures c.or-reported.ensures,
    )
