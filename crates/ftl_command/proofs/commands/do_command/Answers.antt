use Rattle.std.proofs.lemmas.Result.{IfErr-weaker}
use Rattle.std.proofs.Common.{ap}
use Rattle.fluent_serve.proofs.Outcomes.{on_ok_always}
use Rattle.ftl_command.proofs.Refusals.{in_place_devices, input_devices, lint_devices, lint_input_devices, project_lint_devices, status_devices, text_devices}
use Rattle.ftl_command.proofs.RunLemmas.{done_by, if_ok_any, first_by, kept_by, never_by}
use Rattle.ftl_command.specs.declared.fault.Fault.TheVariants.{Input, Memory}
use Rattle.ftl_command.proofs.commands.do_command.Goals as goal

pub returns-in-Run-clause-ended : goal.returns-in-Run-clause-ended
returns-in-Run-clause-ended g c =
    let files = c.deref.ensures.value in
    rw c.in-Run.is (record {
      done = done_by c.run_files.result _ c.run_files.ensures.ended (rw files at c.run_files.ensures.ran.answered);
      tidied = rw files at c.run_files.ensures.ran.tidied;
      memory = λ memory. first_by _ _ _ _ (rw files at (c.run_files.ensures.ran.memory memory));
      input = λ input. rw files at (c.run_files.ensures.ran.input input);
      output = λ output. rw files at (c.run_files.ensures.ran.output output);
    })

pub returns-in-Run-clause-devices : goal.returns-in-Run-clause-devices
returns-in-Run-clause-devices g c =
    rw c.in-Run.is (record {
      opens = c.run_files.ensures.opens;
      reads = c.run_files.ensures.reads;
      writes = c.run_files.ensures.writes;
      fault = rw c.deref.ensures.value at c.run_files.ensures.fault;
      stops = c.run_files.ensures.stops;
    })

pub returns-in-Run-clause-files : goal.returns-in-Run-clause-files
returns-in-Run-clause-files g c = rw c.in-Run.is c.run_files.ensures.kept

pub returns-in-Format-clause-ended : goal.returns-in-Format-clause-ended
returns-in-Format-clause-ended g c =
    rw c.in-Format.is (record {
      done = c.write_formatted.ensures.ended.written;
      tidied = on_ok_always c.write_formatted.result tt;
      memory = λ memory. ap g.O.Sink.contents (kept_by c.write_formatted.result Memory memory (λ same. absurd cc) (IfErr-weaker c.write_formatted.result _ _ (λ fault f. f.unwritten) c.write_formatted.ensures.stops));
      input = λ input. never_by c.write_formatted.result Input input (IfErr-weaker c.write_formatted.result _ _ (λ fault f. f.not_input) c.write_formatted.ensures.stops);
      output = λ output. c.write_formatted.ensures.ended.output output;
    })

pub returns-in-Format-clause-devices : goal.returns-in-Format-clause-devices
returns-in-Format-clause-devices g c =
    rw c.in-Format.is (text_devices g.F.Folder g.I.Source g.O.Sink c.args.reader.now c.args.writer.now _ c.args.folder.now c.write_formatted.new.folder c.write_formatted.new.writer
    c.write_formatted.result c.write_formatted.ensures.works c.write_formatted.ensures.fault c.write_formatted.ensures.stops)

pub returns-in-Format-clause-files : goal.returns-in-Format-clause-files
returns-in-Format-clause-files g c = rw c.in-Format.is c.write_formatted.ensures.kept

pub returns-in-Check-clause-ended : goal.returns-in-Check-clause-ended
returns-in-Check-clause-ended g c =
    let files = c.deref-in-Check.ensures.value in
    rw c.in-Check.is (record {
      done = rw files at c.check_files.ensures.ended.checked;
      tidied = on_ok_always c.check_files.result tt;
      memory = λ memory. ap g.O.Sink.contents (kept_by c.check_files.result Memory memory (λ same. absurd cc) (IfErr-weaker c.check_files.result _ _ (λ fault f. f.unwritten) c.check_files.ensures.stops));
      input = λ input. never_by c.check_files.result Input input (IfErr-weaker c.check_files.result _ _ (λ fault f. f.not_input) c.check_files.ensures.stops);
      output = λ output. rw files at (c.check_files.ensures.ended.output output);
    })

pub returns-in-Check-clause-devices : goal.returns-in-Check-clause-devices
returns-in-Check-clause-devices g c =
    rw c.in-Check.is (text_devices g.F.Folder g.I.Source g.O.Sink c.args.reader.now c.args.writer.now _ c.args.folder.now c.check_files.new.folder c.check_files.new.writer
    c.check_files.result c.check_files.ensures.works (rw c.deref-in-Check.ensures.value at c.check_files.ensures.fault) c.check_files.ensures.stops)

pub returns-in-Check-clause-files : goal.returns-in-Check-clause-files
returns-in-Check-clause-files g c = rw c.in-Check.is c.check_files.ensures.kept

pub returns-in-Lint-clause-ended : goal.returns-in-Lint-clause-ended
returns-in-Lint-clause-ended g c =
    rw c.in-Lint.is (record {
      done = if_ok_any c.lint_files.result;
      tidied = on_ok_always c.lint_files.result tt;
      memory = λ memory. ap g.O.Sink.contents (kept_by c.lint_files.result Memory memory (λ same. absurd cc) (IfErr-weaker c.lint_files.result _ _ (λ fault f. f.unwritten) c.lint_files.ensures.stops));
      input = λ input. never_by c.lint_files.result Input input (IfErr-weaker c.lint_files.result _ _ (λ fault f. f.not_input) c.lint_files.ensures.stops);
      output = λ output. tt;
    })

pub returns-in-Lint-clause-devices : goal.returns-in-Lint-clause-devices
returns-in-Lint-clause-devices g c =
    rw c.in-Lint.is (lint_devices g.F.Folder c.args.folder.now c.lint_files.new.folder _ g.I.Source g.O.Sink c.args.reader.now c.args.writer.now c.lint_files.new.writer
    c.lint_files.result c.lint_files.ensures.writes c.lint_files.ensures.fault c.lint_files.ensures.stops)

pub returns-in-Lint-clause-files : goal.returns-in-Lint-clause-files
returns-in-Lint-clause-files g c = rw c.in-Lint.is c.lint_files.ensures.ended

pub returns-in-LintInput-clause-ended : goal.returns-in-LintInput-clause-ended
returns-in-LintInput-clause-ended g c =
    rw c.in-LintInput.is (record {
      done = if_ok_any c.lint_input.result;
      tidied = on_ok_always c.lint_input.result tt;
      memory = c.lint_input.ensures.ended.memory;
      input = c.lint_input.ensures.ended.input;
      output = λ output. tt;
    })

pub returns-in-LintInput-clause-devices : goal.returns-in-LintInput-clause-devices
returns-in-LintInput-clause-devices g c =
    rw c.in-LintInput.is (lint_input_devices g.F.Folder c.args.folder.now c.lint_input.new.folder _ g.I.Source g.O.Sink c.args.reader.now c.lint_input.new.reader c.args.writer.now c.lint_input.new.writer
    c.lint_input.result c.lint_input.ensures.reads c.lint_input.ensures.writes c.lint_input.ensures.fault c.lint_input.ensures.stops)

pub returns-in-LintInput-clause-files : goal.returns-in-LintInput-clause-files
returns-in-LintInput-clause-files g c = rw c.in-LintInput.is c.lint_input.ensures.ended

pub returns-in-Tidy-clause-ended : goal.returns-in-Tidy-clause-ended
returns-in-Tidy-clause-ended g c =
    rw c.in-Tidy.is (record {
      done = done_by c.write_tidied.result _ c.write_tidied.ensures.ended c.write_tidied.ensures.tidied.written;
      tidied = on_ok_always c.write_tidied.result tt;
      memory = λ memory. ap g.O.Sink.contents (kept_by c.write_tidied.result Memory memory (λ same. absurd cc) (IfErr-weaker c.write_tidied.result _ _ (λ fault f. f.unwritten) c.write_tidied.ensures.stops));
      input = λ input. never_by c.write_tidied.result Input input (IfErr-weaker c.write_tidied.result _ _ (λ fault f. f.not_input) c.write_tidied.ensures.stops);
      output = λ output. c.write_tidied.ensures.tidied.output output;
    })

pub returns-in-Tidy-clause-devices : goal.returns-in-Tidy-clause-devices
returns-in-Tidy-clause-devices g c =
    rw c.in-Tidy.is (text_devices g.F.Folder g.I.Source g.O.Sink c.args.reader.now c.args.writer.now _ c.args.folder.now c.write_tidied.new.folder c.write_tidied.new.writer
    c.write_tidied.result c.write_tidied.ensures.works c.write_tidied.ensures.fault c.write_tidied.ensures.stops)

pub returns-in-Tidy-clause-files : goal.returns-in-Tidy-clause-files
returns-in-Tidy-clause-files g c = rw c.in-Tidy.is c.write_tidied.ensures.kept

pub returns-in-TidyFiles-clause-ended : goal.returns-in-TidyFiles-clause-ended
returns-in-TidyFiles-clause-ended g c =
    rw c.in-TidyFiles.is (record {
      done = if_ok_any c.tidy_in_place.result;
      tidied = on_ok_always c.tidy_in_place.result tt;
      memory = λ memory. ap g.O.Sink.contents (kept_by c.tidy_in_place.result Memory memory (λ same. absurd cc) (IfErr-weaker c.tidy_in_place.result _ _ (λ fault f. f.unwritten) c.tidy_in_place.ensures.stops));
      input = λ input. never_by c.tidy_in_place.result Input input (IfErr-weaker c.tidy_in_place.result _ _ (λ fault f. f.not_input) c.tidy_in_place.ensures.stops);
      output = λ output. tt;
    })

pub returns-in-TidyFiles-clause-devices : goal.returns-in-TidyFiles-clause-devices
returns-in-TidyFiles-clause-devices g c =
    rw c.in-TidyFiles.is (in_place_devices g.F.Folder c.args.folder.now c.tidy_in_place.new.folder _ g.I.Source g.O.Sink c.args.reader.now c.args.writer.now c.tidy_in_place.new.writer
    c.tidy_in_place.result c.tidy_in_place.ensures.writes c.tidy_in_place.ensures.fault c.tidy_in_place.ensures.stops)

pub returns-in-TidyFiles-clause-files : goal.returns-in-TidyFiles-clause-files
returns-in-TidyFiles-clause-files g c = rw c.in-TidyFiles.is c.tidy_in_place.ensures.ended

pub returns-in-TidyInput-clause-ended : goal.returns-in-TidyInput-clause-ended
returns-in-TidyInput-clause-ended g c =
    rw c.in-TidyInput.is (record {
      done = c.tidy_input.ensures.ended.done;
      tidied = on_ok_always c.tidy_input.result tt;
      memory = c.tidy_input.ensures.ended.memory;
      input = c.tidy_input.ensures.ended.input;
      output = c.tidy_input.ensures.ended.output;
    })

pub returns-in-TidyInput-clause-devices : goal.returns-in-TidyInput-clause-devices
returns-in-TidyInput-clause-devices g c =
    rw c.in-TidyInput.is (input_devices g.F.Folder c.args.folder.now _ g.I.Source g.O.Sink c.args.reader.now c.tidy_input.new.reader c.args.writer.now c.tidy_input.new.writer
    c.tidy_input.result c.tidy_input.ensures.reads c.tidy_input.ensures.writes c.tidy_input.ensures.fault c.tidy_input.ensures.stops)

pub returns-in-LintProject-clause-ended : goal.returns-in-LintProject-clause-ended
returns-in-LintProject-clause-ended g c =
    rw c.in-LintProject.is (record {
      done = if_ok_any c.write_project_report.result;
      tidied = on_ok_always c.write_project_report.result tt;
      memory = λ memory. ap g.O.Sink.contents (kept_by c.write_project_report.result Memory memory (λ same. absurd cc) (IfErr-weaker c.write_project_report.result _ _ (λ fault f. f.unwritten) c.write_project_report.ensures.stops));
      input = λ input. never_by c.write_project_report.result Input input (IfErr-weaker c.write_project_report.result _ _ (λ fault f. f.not_input) c.write_project_report.ensures.stops);
      output = λ output. tt;
    })

pub returns-in-LintProject-clause-devices : goal.returns-in-LintProject-clause-devices
returns-in-LintProject-clause-devices g c =
    rw c.in-LintProject.is (project_lint_devices g.F.Folder c.args.folder.now c.write_project_report.new.folder g.I.Source g.O.Sink c.args.reader.now c.args.writer.now c.write_project_report.new.writer
    c.write_project_report.result _ c.write_project_report.ensures.writes c.write_project_report.ensures.fault c.write_project_report.ensures.stops)

pub returns-in-LintProject-clause-files : goal.returns-in-LintProject-clause-files
returns-in-LintProject-clause-files g c = rw c.in-LintProject.is c.write_project_report.ensures.ended

pub returns-in-Status-clause-ended : goal.returns-in-Status-clause-ended
returns-in-Status-clause-ended g c =
    rw c.in-Status.is (record {
      done = if_ok_any c.write_status.result;
      tidied = on_ok_always c.write_status.result tt;
      memory = λ memory. ap g.O.Sink.contents (kept_by c.write_status.result Memory memory (λ same. absurd cc) (IfErr-weaker c.write_status.result _ _ (λ fault f. f.unwritten) c.write_status.ensures.stops));
      input = λ input. never_by c.write_status.result Input input (IfErr-weaker c.write_status.result _ _ (λ fault f. f.not_input) c.write_status.ensures.stops);
      output = λ output. tt;
    })

pub returns-in-Status-clause-devices : goal.returns-in-Status-clause-devices
returns-in-Status-clause-devices g c =
    rw c.in-Status.is (status_devices g.F.Folder c.args.folder.now c.write_status.new.folder g.I.Source g.O.Sink c.args.reader.now c.args.writer.now c.write_status.new.writer
    c.write_status.result _ c.write_status.ensures.writes c.write_status.ensures.fault c.write_status.ensures.stops)

pub returns-in-Status-clause-files : goal.returns-in-Status-clause-files
returns-in-Status-clause-files g c = rw c.in-Status.is c.write_status.ensures.ended
