use Rattle.std.proofs.Common.{◌∙◌, Err, Ok, string_bytes, sym}
use Rattle.clap.specs.declared.error.kind.ErrorKind.TheVariants.{DisplayHelp, DisplayVersion}
use Rattle.ftl_arguments.specs.Meaning.{command_of, texts}
use Rattle.fluent_serve.specs.Exchange.{devices}
use Rattle.ftl_command.proofs.EndLemmas.{not_alone_by, refused_by, untouched, without_input}
use Rattle.ftl_command.proofs.EndStatuses.{not_alone_end, refused_end}
use Rattle.ftl_command.proofs.FaultLemmas.{end_status-among, never_zero, status_of-among}
use Rattle.ftl_command.proofs.commands.program_on.Goals as goal

pub returns-in-Ok-clause-ended : goal.returns-in-Ok-clause-ended
returns-in-Ok-clause-ended g c = record {
  outcome = Ok c.in-Ok.end;
  exact = c.tell_errors_on.ensures.status;
  reports = c.tell_errors_on.ensures.told;
  done = c.in-Ok.ensures.ended.done;
  text = c.in-Ok.ensures.help.text;
  version = c.in-Ok.ensures.help.version;
  opens = c.in-Ok.ensures.devices.opens;
  reads = c.in-Ok.ensures.devices.reads;
  writes = c.in-Ok.ensures.devices.writes;
  of_files = c.in-Ok.ensures.files;
  no_input = without_input (command_of c.args.screens.colours (texts c.args.words.now)) (untouched g.I.Source.remaining g.I.Source.failures) c.run_command.ensures.no_input;
  refused = tt;
  not_help = tt;
  not_version = tt;
  unknown = tt;
  files = tt;
  right = tt;
  unread = tt;
  unwritten = tt;
  memory_out = λ is. absurd cc;
  input_failed = λ is. absurd cc;
  output_cut = λ is. absurd cc;
  output_failed = λ is. absurd cc;
}

pub returns-in-Err-clause-ended : goal.returns-in-Err-clause-ended
returns-in-Err-clause-ended g c = let fault = c.in-Err.ensures.devices.fault in record {
  outcome = Err c.in-Err.fault;
  exact = c.tell_on.ensures.status;
  reports = record {
    reason = string_bytes c.shown_reason-reason.result;
    right = rw c.explain.ensures at c.shown_reason-reason.ensures;
    reports = rw c.as_str.ensures.value at c.tell_on.ensures.told;
  };
  done = tt;
  text = tt;
  version = c.in-Err.ensures.help.version;
  opens = tt;
  reads = tt;
  writes = tt;
  of_files = c.in-Err.ensures.files;
  no_input = without_input (command_of c.args.screens.colours (texts c.args.words.now)) (untouched g.I.Source.remaining g.I.Source.failures) c.run_command.ensures.no_input;
  refused = fault.refused;
  not_help = c.in-Err.ensures.help.not_help;
  not_version = c.in-Err.ensures.help.not_version;
  unknown = fault.unknown;
  files = fault.files;
  right = fault.right;
  unread = λ before. untouched g.I.Source.remaining g.I.Source.failures (c.in-Err.ensures.devices.stops.unread before);
  unwritten = λ before. untouched g.O.Sink.contents g.O.Sink.failures (c.in-Err.ensures.devices.stops.unwritten before);
  memory_out = c.in-Err.ensures.ended.memory;
  input_failed = c.in-Err.ensures.ended.input;
  output_cut = c.in-Err.ensures.ended.output;
  output_failed = λ is. c.in-Err.ensures.devices.stops.failed cc;
}

pub returns-in-Ok-clause-status : goal.returns-in-Ok-clause-status
returns-in-Ok-clause-status g c =
    let contents = g.F.Folder.contents c.args.folder.now in
    let moved = devices g.I.Source.remaining c.args.reader.now c.run_command.new.reader g.O.Sink.contents c.args.writer.now c.run_command.new.writer in
    let words = texts c.args.words.now in
    let is = c.tell_errors_on.ensures.status in
    record {
      among = rw is (end_status-among c.in-Ok.end);
      refused = λ two. refused_end contents moved (command_of c.args.screens.colours words) c.in-Ok.end c.in-Ok.ensures.ended.done (sym is ∙ two);
      not_help = λ two. not_alone_end contents moved c.args.screens.colours words DisplayHelp c.in-Ok.end c.in-Ok.ensures.ended.done (sym is ∙ two);
      not_version = λ two. not_alone_end contents moved c.args.screens.colours words DisplayVersion c.in-Ok.end c.in-Ok.ensures.ended.done (sym is ∙ two);
      served = λ zero. c.in-Ok.ensures.help.text;
    }

pub returns-in-Err-clause-status : goal.returns-in-Err-clause-status
returns-in-Err-clause-status g c =
    let contents = g.F.Folder.contents c.args.folder.now in
    let words = texts c.args.words.now in
    let fault = c.in-Err.ensures.devices.fault in
    let help = c.in-Err.ensures.help in
    let is = c.tell_on.ensures.status in
    record {
      among = rw is (status_of-among c.in-Err.fault);
      refused = λ two. refused_by contents (command_of c.args.screens.colours words) c.in-Err.fault fault.refused fault.unknown fault.right (sym is ∙ two);
      not_help = λ two. not_alone_by contents c.args.screens.colours words DisplayHelp c.in-Err.fault help.not_help fault.unknown fault.right (sym is ∙ two);
      not_version = λ two. not_alone_by contents c.args.screens.colours words DisplayVersion c.in-Err.fault help.not_version fault.unknown fault.right (sym is ∙ two);
      served = λ zero. absurd (never_zero c.in-Err.fault (sym is ∙ zero));
    }
