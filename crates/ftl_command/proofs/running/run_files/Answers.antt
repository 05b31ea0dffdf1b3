use Rattle.std.proofs.Common.{◌≡◌, ◌∙◌, Err, Some, ap, map, subst, arith, rules, string_bytes}
use Rattle.std.proofs.lemmas.Grind.{common_steps}
use Rattle.ftl_command.proofs.RunLemmas.{before_answers, by_plurals, known_alike}
use Rattle.fluent_serve.specs.Texts.{texts}
use Rattle.ftl_command.specs.Files.{AreHeld}
use Rattle.ftl_command.specs.Plurals.{rules_view}
use Rattle.ftl_command.specs.Program.{run_asked, run_of}
use Rattle.ftl_arguments.specs.Meaning.{run}
use Rattle.ftl_command.specs.Faults.{run_fault}
use Rattle.ftl_command.specs.Refusals.{IsDeviceFault, IsFaultOf}
use Rattle.ftl_command.proofs.Refusals.{of_files, of_locale, of_run, run_stops, untouched_devices}
use Rattle.ftl_command.proofs.running.run_files.Goals as goal

pub returns-in_err-texts-clause-ran : goal.returns-in_err-texts-clause-ran
returns-in_err-texts-clause-ran g c = record {
  answered = search rules;
  tidied = search rules;
  memory = λ is.
      before_answers (rules_view c.in_ok-rules.rules) (g.F.Folder.contents c.args.folder.now) (run_of c.args.options c.args.files.now)
      (g.I.Source.remaining c.args.reader.now) (g.O.Sink.contents c.args.writer.now) c.in_ok-rules.ensures.known;
  input = first_of (search rules, grind (arith, common_steps));
  output = first_of (search rules, grind (arith, common_steps));
}

pub returns-in_err-sources-clause-ran : goal.returns-in_err-sources-clause-ran
returns-in_err-sources-clause-ran g c = record {
  answered = search rules;
  tidied = search rules;
  memory = λ is.
      before_answers (rules_view c.in_ok-rules.rules) (g.F.Folder.contents c.args.folder.now) (run_of c.args.options c.args.files.now)
      (g.I.Source.remaining c.args.reader.now) (g.O.Sink.contents c.args.writer.now) c.in_ok-rules.ensures.known;
  input = first_of (search rules, grind (arith, common_steps));
  output = first_of (search rules, grind (arith, common_steps));
}

pub returns-clause-ran : goal.returns-clause-ran
returns-clause-ran g c =
    let same : map string_bytes c.in_ok-texts.texts.items ≡ texts c.deref-2.result.now = search rules in
    let held = subst (AreHeld (g.F.Folder.contents c.args.folder.now) (texts c.args.files.now)) same c.in_ok-texts.ensures.held in
    record {
      answered = by_plurals _ (rules_view c.in_ok-rules.rules) _ c.in_ok-rules.ensures.known (record {
        sources = texts c.deref-2.result.now;
        held = held;
        outcome = record {
          exact = c.in_ok-run_before_exit.ensures.answered.exact;
          given = c.in_ok-run_before_exit.ensures.answered.served.ok;
          end = c.in_ok-run_before_exit.ensures.end;
        };
      });
      tidied = by_plurals _ (rules_view c.in_ok-rules.rules) _ c.in_ok-rules.ensures.known (record {
        sources = texts c.deref-2.result.now;
        held = held;
        outcome = λ others steps. known_alike _ (g.I.Source.remaining c.args.reader.now) _ (c.in_ok-run_before_exit.ensures.answered.tidied) others steps;
      });
      memory = λ is. absurd cc;
      input = λ is. absurd cc;
      output = λ is. absurd cc;
    }

pub returns-in_err-run_before_exit-clause-ran : goal.returns-in_err-run_before_exit-clause-ran
returns-in_err-run_before_exit-clause-ran g c =
    let same : map string_bytes c.in_ok-texts.texts.items ≡ texts c.deref-2.result.now = search rules in
    let held = subst (AreHeld (g.F.Folder.contents c.args.folder.now) (texts c.args.files.now)) same c.in_ok-texts.ensures.held in
    let so_far = c.in_err-run_before_exit.ensures.answered.served in
    let first = so_far.memory in
    let whole = so_far.read in
    let front = so_far.write in
    record {
      answered = search rules;
      tidied = search rules;
      memory = λ is. by_plurals _ (rules_view c.in_ok-rules.rules) _ c.in_ok-rules.ensures.known (record { sources = texts c.deref-2.result.now; held = held; outcome = search rules });
      input = λ is. by_plurals _ (rules_view c.in_ok-rules.rules) _ c.in_ok-rules.ensures.known (record { sources = texts c.deref-2.result.now; held = held; outcome = search rules });
      output = λ is. by_plurals _ (rules_view c.in_ok-rules.rules) _ c.in_ok-rules.ensures.known (record { sources = texts c.deref-2.result.now; held = held; outcome = search rules });
    }

pub returns-in_err-rules-clause-fault : goal.returns-in_err-rules-clause-fault
returns-in_err-rules-clause-fault g c =
    let asked = run (run_of c.args.options c.args.files.now) in
    let early = of_locale g.F.Folder c.args.folder.now asked c.in_err-rules.field-0.0 c.in_err-rules.ensures.fault c.in_err-rules.ensures.unknown in
    let says : IsFaultOf g.F.Folder c.args.folder.now c.args.folder.now (Some asked) c.in_err-rules.field-0.0 = early.says in
    search rules

pub returns-in_err-rules-clause-stops : goal.returns-in_err-rules-clause-stops
returns-in_err-rules-clause-stops g c =
    let asked = run (run_of c.args.options c.args.files.now) in
    let early = of_locale g.F.Folder c.args.folder.now asked c.in_err-rules.field-0.0 c.in_err-rules.ensures.fault c.in_err-rules.ensures.unknown in
    let stops : IsDeviceFault g.I.Source c.args.reader.now c.args.reader.now g.O.Sink c.args.writer.now c.args.writer.now c.in_err-rules.field-0.0 =
    untouched_devices g.I.Source g.O.Sink c.args.reader.now c.args.writer.now c.in_err-rules.field-0.0 early.not_input early.not_output in
    search rules

pub returns-in_err-texts-clause-fault : goal.returns-in_err-texts-clause-fault
returns-in_err-texts-clause-fault g c =
    let asked = run (run_of c.args.options c.args.files.now) in
    let early = of_files g.F.Folder c.args.folder.now c.read_text_files.new.folder asked c.in_err-texts.field-0.0 c.in_err-texts.ensures.fault in
    let says : IsFaultOf g.F.Folder c.args.folder.now c.read_text_files.new.folder (Some asked) c.in_err-texts.field-0.0 = early.says in
    search rules

pub returns-in_err-texts-clause-stops : goal.returns-in_err-texts-clause-stops
returns-in_err-texts-clause-stops g c =
    let asked = run (run_of c.args.options c.args.files.now) in
    let early = of_files g.F.Folder c.args.folder.now c.read_text_files.new.folder asked c.in_err-texts.field-0.0 c.in_err-texts.ensures.fault in
    let stops : IsDeviceFault g.I.Source c.args.reader.now c.args.reader.now g.O.Sink c.args.writer.now c.args.writer.now c.in_err-texts.field-0.0 =
    untouched_devices g.I.Source g.O.Sink c.args.reader.now c.args.writer.now c.in_err-texts.field-0.0 early.not_input early.not_output in
    search rules

pub returns-in_err-run_before_exit-clause-fault : goal.returns-in_err-run_before_exit-clause-fault
returns-in_err-run_before_exit-clause-fault g c =
    let says : IsFaultOf g.F.Folder c.args.folder.now c.read_text_files.new.folder (run_asked c.args.options c.args.files.now) (run_fault c.in_err-run_before_exit.field-0.0) =
    of_run g.F.Folder c.args.folder.now c.read_text_files.new.folder (run_asked c.args.options c.args.files.now) c.in_ok-texts.ensures.opens c.in_err-run_before_exit.field-0.0 in
    search rules

pub returns-in_err-run_before_exit-clause-stops : goal.returns-in_err-run_before_exit-clause-stops
returns-in_err-run_before_exit-clause-stops g c =
    let error = c.in_err-run_before_exit.field-0.0 in
    let stops : IsDeviceFault g.I.Source c.args.reader.now c.run_before_exit.new.reader g.O.Sink c.args.writer.now c.run_before_exit.new.writer (run_fault error) =
    run_stops g.I.Source g.O.Sink c.args.reader.now c.run_before_exit.new.reader c.args.writer.now c.run_before_exit.new.writer error
    (λ is. c.run_before_exit.ensures.given_up (c.in_err-run_before_exit.was ∙ ap Err is))
    (λ is. c.run_before_exit.ensures.failed (c.in_err-run_before_exit.was ∙ ap Err is)) in
    search rules

pub returns-clause-reads : goal.returns-clause-reads
returns-clause-reads g c = c.in_ok-run_before_exit.ensures.reads

pub returns-clause-writes : goal.returns-clause-writes
returns-clause-writes g c = c.in_ok-run_before_exit.ensures.writes
