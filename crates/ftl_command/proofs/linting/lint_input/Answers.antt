use Rattle.std.proofs.Common.{rules}
use Rattle.fluent_lint.specs.LintView.{report_view}
use Rattle.ftl_arguments.specs.CommandView.{lint_view}
use Rattle.ftl_files.specs.States.{state_of}
use Rattle.ftl_command.specs.Linted.{OnInputReport, unread_view}
use Rattle.ftl_command.proofs.LintLemmas.{lint_cut, lint_input_unread, linted_so, on_input_report}
use Rattle.ftl_command.specs.declared.fault.Fault.TheVariants.{Input, Memory}
use Rattle.ftl_command.proofs.Refusals.{lint_input_output, read_device, report_cut}
use Rattle.ftl_command.proofs.RunLemmas.{other_by}
use Rattle.ftl_command.proofs.linting.lint_input.Goals as goal

pub returns-in_err-linted-clause-ended : goal.returns-in_err-linted-clause-ended
returns-in_err-linted-clause-ended g c = search (rules, lint_input_unread)

pub returns-in_err-linted-clause-stops : goal.returns-in_err-linted-clause-stops
returns-in_err-linted-clause-stops g c = search (rules, read_device)

pub returns-in_err-write_to_stream-clause-fault : goal.returns-in_err-write_to_stream-clause-fault
returns-in_err-write_to_stream-clause-fault g c = search (rules, lint_input_output)

pub returns-in_err-write_to_stream-clause-stops : goal.returns-in_err-write_to_stream-clause-stops
returns-in_err-write_to_stream-clause-stops g c = search (rules, report_cut)

pub returns-in_err-write_to_stream-clause-ended : goal.returns-in_err-write_to_stream-clause-ended
returns-in_err-write_to_stream-clause-ended g c =
    let lint = lint_view c.args.lint.now in
    let before = state_of g.F.Folder c.args.folder.now in
    let after = state_of g.F.Folder c.report_input.new.folder in
    let left = g.I.Source.remaining c.args.reader.now in
    let left_after = g.I.Source.remaining c.report_input.new.reader in
    let linted = c.in_ok-linted.linted in
    record {
      linted = search rules;
      memory = λ is. absurd (other_by _ Memory is (λ same. absurd cc) (search rules));
      input = λ is. absurd (other_by _ Input is (λ same. absurd cc) (search rules));
      output = λ is.
          lint_cut (OnInputReport lint before after left left_after) (on_input_report lint before after left left_after) (report_view linted.report) (unread_view linted) _ _ _
          c.in_ok-linted.ensures.linted c.as_str.ensures.value c.in_err-write_to_stream.ensures.front;
      kept = c.in_ok-linted.ensures.kept;
    }

pub returns-clause-ended : goal.returns-clause-ended
returns-clause-ended g c =
    let lint = lint_view c.args.lint.now in
    let before = state_of g.F.Folder c.args.folder.now in
    let after = state_of g.F.Folder c.report_input.new.folder in
    let left = g.I.Source.remaining c.args.reader.now in
    let left_after = g.I.Source.remaining c.report_input.new.reader in
    let linted = c.in_ok-linted.linted in
    record {
      linted =
          linted_so (OnInputReport lint before after left left_after) (on_input_report lint before after left left_after) (report_view linted.report) (unread_view linted) _ _ _
          c.in_ok-linted.ensures.linted c.as_str.ensures.value _ c.in_ok-write_to_stream.ensures.written c.end_of.ensures;
      memory = λ is. absurd cc;
      input = λ is. absurd cc;
      output = λ is. absurd cc;
      kept = c.in_ok-linted.ensures.kept;
    }
