use Rattle.std.proofs.Common.{inl, inr, refl, ◌∙◌}
use Rattle.ftl_arguments.specs.Meaning.{command_of, texts}
use Rattle.fluent_serve.proofs.Outcomes.{on_ok_always}
use Rattle.ftl_command.proofs.EndLemmas.{asked_command, asked_explanation, asked_help, asked_version, command_helps, is_bad, no_explanation_asked, no_help_asked, text_helps}
use Rattle.ftl_command.proofs.InPlaceLemmas.{none_tidied}
use Rattle.ftl_command.proofs.Refusals.{asked_devices, early_devices, of_bad_words, of_words}
use Rattle.ftl_command.proofs.RunLemmas.{kept_input, nothing_done, other_by, shows_line}
use Rattle.ftl_command.specs.declared.fault.Fault.TheVariants.{CommandLine, Input, Memory}
use Rattle.ftl_command.proofs.commands.run_command.Goals as goal

pub returns-in-Ok-Command-clause-ended : goal.returns-in-Ok-Command-clause-ended
returns-in-Ok-Command-clause-ended g c =
    rw (asked_command c.args.colours (texts c.args.words.now) c.in-Ok-Command.field-0-is c.in-Ok-Command.ensures.asked) c.do_command.ensures.ended

pub returns-in-Ok-Command-clause-devices : goal.returns-in-Ok-Command-clause-devices
returns-in-Ok-Command-clause-devices g c =
    rw (asked_command c.args.colours (texts c.args.words.now) c.in-Ok-Command.field-0-is c.in-Ok-Command.ensures.asked) c.do_command.ensures.devices

pub returns-in-Ok-Command-clause-no_input : goal.returns-in-Ok-Command-clause-no_input
returns-in-Ok-Command-clause-no_input g c =
    rw (asked_command c.args.colours (texts c.args.words.now) c.in-Ok-Command.field-0-is c.in-Ok-Command.ensures.asked) c.do_command.ensures.no_input

pub returns-in-Ok-Command-clause-help : goal.returns-in-Ok-Command-clause-help
returns-in-Ok-Command-clause-help g c =
    command_helps g.O.Sink c.args.writer.now c.do_command.new.writer c.args.colours (texts c.args.words.now) _ c.do_command.result
    (asked_command c.args.colours (texts c.args.words.now) c.in-Ok-Command.field-0-is c.in-Ok-Command.ensures.asked)

pub returns-in-Ok-Help-clause-ended : goal.returns-in-Ok-Help-clause-ended
returns-in-Ok-Help-clause-ended g c =
    let wrote = c.write_asked in
    let asked = asked_help c.args.colours (texts c.args.words.now) c.in-Ok-Help.field-0-is c.in-Ok-Help.ensures.asked in
    rw asked.0 (record {
      done = wrote.ensures.ended;
      tidied = on_ok_always wrote.result tt;
      memory = λ memory. absurd (other_by wrote.result Memory memory (λ same. absurd cc) wrote.ensures.fault);
      input = λ input. other_by wrote.result Input input (λ same. absurd cc) wrote.ensures.fault;
      output = λ output. tt;
    })

pub returns-in-Ok-Help-clause-devices : goal.returns-in-Ok-Help-clause-devices
returns-in-Ok-Help-clause-devices g c =
    let wrote = c.write_asked in
    asked_devices g.F.Folder g.I.Source g.O.Sink c.args.reader.now c.args.writer.now (command_of c.args.colours (texts c.args.words.now)) c.args.folder.now
    wrote.new.writer wrote.result wrote.ensures.writes wrote.ensures.fault wrote.ensures.failed

pub returns-in-Ok-Help-clause-no_input : goal.returns-in-Ok-Help-clause-no_input
returns-in-Ok-Help-clause-no_input g c = kept_input (command_of c.args.colours (texts c.args.words.now)) _

pub returns-in-Ok-Version-clause-ended : goal.returns-in-Ok-Version-clause-ended
returns-in-Ok-Version-clause-ended g c =
    let wrote = c.write_asked-in-Ok-Version in
    let asked = asked_version c.args.colours (texts c.args.words.now) c.in-Ok-Version.field-0-is c.in-Ok-Version.ensures.asked in
    rw asked.0 (record {
      done = wrote.ensures.ended;
      tidied = on_ok_always wrote.result tt;
      memory = λ memory. absurd (other_by wrote.result Memory memory (λ same. absurd cc) wrote.ensures.fault);
      input = λ input. other_by wrote.result Input input (λ same. absurd cc) wrote.ensures.fault;
      output = λ output. tt;
    })

pub returns-in-Ok-Version-clause-devices : goal.returns-in-Ok-Version-clause-devices
returns-in-Ok-Version-clause-devices g c =
    let wrote = c.write_asked-in-Ok-Version in
    asked_devices g.F.Folder g.I.Source g.O.Sink c.args.reader.now c.args.writer.now (command_of c.args.colours (texts c.args.words.now)) c.args.folder.now
    wrote.new.writer wrote.result wrote.ensures.writes wrote.ensures.fault wrote.ensures.failed

pub returns-in-Ok-Version-clause-no_input : goal.returns-in-Ok-Version-clause-no_input
returns-in-Ok-Version-clause-no_input g c = kept_input (command_of c.args.colours (texts c.args.words.now)) _

pub returns-in-Ok-Help-clause-help : goal.returns-in-Ok-Help-clause-help
returns-in-Ok-Help-clause-help g c =
    let words = texts c.args.words.now in
    let asked = asked_help c.args.colours words c.in-Ok-Help.field-0-is c.in-Ok-Help.ensures.asked in
    text_helps g.O.Sink c.args.writer.now c.write_asked.new.writer c.args.colours words c.write_asked.result (inl asked.1)
    (λ alone. absurd (no_help_asked words alone asked.1)) c.write_asked.ensures.fault

pub returns-in-Ok-Version-clause-help : goal.returns-in-Ok-Version-clause-help
returns-in-Ok-Version-clause-help g c =
    let words = texts c.args.words.now in
    let wrote = c.write_asked-in-Ok-Version in
    let asked = asked_version c.args.colours words c.in-Ok-Version.field-0-is c.in-Ok-Version.ensures.asked in
    let line = c.as_str-in-Ok-Version.ensures.value ∙ asked.1.1 in
    text_helps g.O.Sink c.args.writer.now wrote.new.writer c.args.colours words wrote.result (inr (inl asked.1.0))
    (λ alone. shows_line _ _ wrote.result _ line wrote.ensures.written wrote.ensures.front) wrote.ensures.fault

pub returns-in-Ok-Explanation-clause-ended : goal.returns-in-Ok-Explanation-clause-ended
returns-in-Ok-Explanation-clause-ended g c =
    let wrote = c.write_asked-in-Ok-Explanation in
    let asked = asked_explanation c.args.colours (texts c.args.words.now) c.in-Ok-Explanation.field-0-is c.in-Ok-Explanation.ensures.asked in
    rw asked.0 (record {
      done = wrote.ensures.ended;
      tidied = on_ok_always wrote.result tt;
      memory = λ memory. absurd (other_by wrote.result Memory memory (λ same. absurd cc) wrote.ensures.fault);
      input = λ input. other_by wrote.result Input input (λ same. absurd cc) wrote.ensures.fault;
      output = λ output. tt;
    })

pub returns-in-Ok-Explanation-clause-devices : goal.returns-in-Ok-Explanation-clause-devices
returns-in-Ok-Explanation-clause-devices g c =
    let wrote = c.write_asked-in-Ok-Explanation in
    asked_devices g.F.Folder g.I.Source g.O.Sink c.args.reader.now c.args.writer.now (command_of c.args.colours (texts c.args.words.now)) c.args.folder.now
    wrote.new.writer wrote.result wrote.ensures.writes wrote.ensures.fault wrote.ensures.failed

pub returns-in-Ok-Explanation-clause-no_input : goal.returns-in-Ok-Explanation-clause-no_input
returns-in-Ok-Explanation-clause-no_input g c = kept_input (command_of c.args.colours (texts c.args.words.now)) _

pub returns-in-Ok-Explanation-clause-help : goal.returns-in-Ok-Explanation-clause-help
returns-in-Ok-Explanation-clause-help g c =
    let words = texts c.args.words.now in
    let wrote = c.write_asked-in-Ok-Explanation in
    let asked = asked_explanation c.args.colours words c.in-Ok-Explanation.field-0-is c.in-Ok-Explanation.ensures.asked in
    text_helps g.O.Sink c.args.writer.now wrote.new.writer c.args.colours words wrote.result (inr (inr asked.1))
    (λ alone. absurd (no_explanation_asked words alone asked.1)) wrote.ensures.fault

pub returns-in-Ok-Explanation-clause-files : goal.returns-in-Ok-Explanation-clause-files
returns-in-Ok-Explanation-clause-files g c =
    let asked = asked_explanation c.args.colours (texts c.args.words.now) c.in-Ok-Explanation.field-0-is c.in-Ok-Explanation.ensures.asked in
    rw asked.0 refl

pub returns-in-Err-Bad-clause-help : goal.returns-in-Err-Bad-clause-help
returns-in-Err-Bad-clause-help g c = record {
  text = tt;
  version = λ alone. absurd (c.in-Err-Bad.ensures.not_version (is_bad c.in-Err-Bad.field-0-is) alone);
  not_help = λ bad. c.in-Err-Bad.ensures.not_help (is_bad c.in-Err-Bad.field-0-is);
  not_version = λ bad. c.in-Err-Bad.ensures.not_version (is_bad c.in-Err-Bad.field-0-is);
}

pub returns-in-Err-Bad-clause-devices : goal.returns-in-Err-Bad-clause-devices
returns-in-Err-Bad-clause-devices g c =
    let asked = command_of c.args.colours (texts c.args.words.now) in
    early_devices g.F.Folder g.I.Source g.O.Sink c.args.reader.now c.args.writer.now asked c.args.folder.now (CommandLine _) (λ is. absurd cc) (λ is. absurd cc)
    (of_bad_words g.F.Folder c.args.folder.now asked _ (c.in-Err-Bad.ensures.nothing (is_bad c.in-Err-Bad.field-0-is)))

pub returns-in-Err-Memory-clause-ended : goal.returns-in-Err-Memory-clause-ended
returns-in-Err-Memory-clause-ended g c = record {
  done = tt;
  tidied = tt;
  memory = λ memory.
      nothing_done (g.F.Folder.contents c.args.folder.now) (g.I.Source.remaining c.args.reader.now) (g.O.Sink.contents c.args.writer.now)
      (command_of c.args.colours (texts c.args.words.now));
  input = λ input. absurd cc;
  output = λ output. absurd cc;
}

pub returns-in-Err-Memory-clause-help : goal.returns-in-Err-Memory-clause-help
returns-in-Err-Memory-clause-help g c = record {
  text = tt;
  version = λ alone. record { shown = tt; output = λ is. absurd cc };
  not_help = λ bad. absurd bad;
  not_version = λ bad. absurd bad;
}

pub returns-in-Err-Memory-clause-devices : goal.returns-in-Err-Memory-clause-devices
returns-in-Err-Memory-clause-devices g c =
    let asked = command_of c.args.colours (texts c.args.words.now) in
    early_devices g.F.Folder g.I.Source g.O.Sink c.args.reader.now c.args.writer.now asked c.args.folder.now Memory (λ is. absurd cc) (λ is. absurd cc)
    (of_words g.F.Folder c.args.folder.now asked)

pub returns-in-Err-Memory-clause-no_input : goal.returns-in-Err-Memory-clause-no_input
returns-in-Err-Memory-clause-no_input g c = kept_input (command_of c.args.colours (texts c.args.words.now)) _

pub returns-in-Ok-Command-clause-files : goal.returns-in-Ok-Command-clause-files
returns-in-Ok-Command-clause-files g c =
    rw (asked_command c.args.colours (texts c.args.words.now) c.in-Ok-Command.field-0-is c.in-Ok-Command.ensures.asked) c.do_command.ensures.files

pub returns-in-Ok-Help-clause-files : goal.returns-in-Ok-Help-clause-files
returns-in-Ok-Help-clause-files g c =
    let asked = asked_help c.args.colours (texts c.args.words.now) c.in-Ok-Help.field-0-is c.in-Ok-Help.ensures.asked in
    rw asked.0 refl

pub returns-in-Ok-Version-clause-files : goal.returns-in-Ok-Version-clause-files
returns-in-Ok-Version-clause-files g c =
    let asked = asked_version c.args.colours (texts c.args.words.now) c.in-Ok-Version.field-0-is c.in-Ok-Version.ensures.asked in
    rw asked.0 refl

pub returns-in-Err-Bad-clause-files : goal.returns-in-Err-Bad-clause-files
returns-in-Err-Bad-clause-files g c = rw (c.in-Err-Bad.ensures.nothing (is_bad c.in-Err-Bad.field-0-is)) refl

pub returns-in-Err-Memory-clause-files : goal.returns-in-Err-Memory-clause-files
returns-in-Err-Memory-clause-files g c = none_tidied (command_of c.args.colours (texts c.args.words.now)) _ _ _
