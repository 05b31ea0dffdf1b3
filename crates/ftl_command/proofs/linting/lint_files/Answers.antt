use Rattle.std.proofs.Common.{rules}
use Rattle.fluent_lint.specs.LintView.{report_view}
use Rattle.ftl_arguments.specs.CommandView.{lint_view}
use Rattle.ftl_files.specs.States.{state_of}
use Rattle.ftl_command.specs.Linted.{OnLintReport, unread_view}
use Rattle.ftl_command.proofs.LintLemmas.{lint_cut, linted_so, on_lint_report}
use Rattle.ftl_command.proofs.Refusals.{lint_output, text_cut}
use Rattle.ftl_command.proofs.linting.lint_files.Goals as goal

pub returns-in_err-write_to_stream-clause-fault : goal.returns-in_err-write_to_stream-clause-fault
returns-in_err-write_to_stream-clause-fault g c = search (rules, lint_output)

pub returns-in_err-write_to_stream-clause-stops : goal.returns-in_err-write_to_stream-clause-stops
returns-in_err-write_to_stream-clause-stops g c = search (rules, text_cut)

pub returns-in_err-write_to_stream-clause-ended : goal.returns-in_err-write_to_stream-clause-ended
returns-in_err-write_to_stream-clause-ended g c =
    let lint = lint_view c.args.lint.now in
    let before = state_of g.F.Folder c.args.folder.now in
    let after = state_of g.F.Folder c.report_paths.new.folder in
    let linted = c.in_ok-linted.linted in
    record {
      linted = search rules;
      output = λ is.
          lint_cut (OnLintReport lint before after) (on_lint_report lint before after) (report_view linted.report) (unread_view linted) _ _ _ c.in_ok-linted.ensures.linted c.as_str.ensures.value
          c.in_err-write_to_stream.ensures.front;
      kept = c.in_ok-linted.ensures.kept;
    }

pub returns-clause-ended : goal.returns-clause-ended
returns-clause-ended g c =
    let lint = lint_view c.args.lint.now in
    let before = state_of g.F.Folder c.args.folder.now in
    let after = state_of g.F.Folder c.report_paths.new.folder in
    let linted = c.in_ok-linted.linted in
    record {
      linted =
          linted_so (OnLintReport lint before after) (on_lint_report lint before after) (report_view linted.report) (unread_view linted) _ _ _ c.in_ok-linted.ensures.linted c.as_str.ensures.value _
          c.in_ok-write_to_stream.ensures.written c.end_of.ensures;
      output = λ is. absurd cc;
      kept = c.in_ok-linted.ensures.kept;
    }
