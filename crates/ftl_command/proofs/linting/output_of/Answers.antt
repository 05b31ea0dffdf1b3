use Rattle.std.proofs.Common.{List, ap}
use Rattle.fluent_lint.specs.LintReport as report
use Rattle.fluent_grammar.specs.Words.{Text}
use Rattle.ftl_arguments.specs.CommandView.{lint_view}
use Rattle.ftl_arguments.specs.Meaning.{texts}
use Rattle.ftl_command.specs.Linted.{output_asked}
use Rattle.ftl_command.proofs.linting.output_of.Goals as goal

pub returns : goal.returns
returns c =
    let output = output_asked (lint_view c.args.lint.now) in
    let with_ignored : List Text → report.Output = λ ignored. record output { ignored = ignored } in
    ap (λ these. with_ignored (texts these)) c.deref.ensures.value
