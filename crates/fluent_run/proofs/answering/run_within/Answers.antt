use Rattle.std.proofs.Common.{rules}
use Rattle.fluent_run.specs.RunView.{line_by, no_text, settings_view}
use Rattle.fluent_run.proofs.Answered.{run-answered}
use Rattle.fluent_run.proofs.Environments.{line-same}
use Rattle.fluent_serve.proofs.Runs.{nothing_served}
use Rattle.fluent_serve.specs.Texts.{texts}
use Rattle.fluent_run.proofs.answering.run_within.Goals as goal

pub returns-in_err-resources : goal.returns-in_err-resources
returns-in_err-resources g c =
    let m = g.M.MemoizerKind in
    record {
      answered = record {
        exact = search rules;
        tidied = search rules;
        served = record {
          ok = search rules;
          memory = λ is.
              nothing_served (g.R.Source.remaining c.args.reader.now) (g.W.Sink.contents c.args.writer.now) (line_by m.category_of m.stringified c.args.plurals.now c.args.settings c.args.sources.now);
          read = search rules;
          write = search rules;
        };
      };
      end = search rules;
      reads = search rules;
      writes = search rules;
      given_up = search rules;
      failed = search rules;
    }

pub returns-in_err-desk : goal.returns-in_err-desk
returns-in_err-desk g c =
    let m = g.M.MemoizerKind in
    record {
      answered = record {
        exact = search rules;
        tidied = search rules;
        served = record {
          ok = search rules;
          memory = λ is.
              nothing_served (g.R.Source.remaining c.args.reader.now) (g.W.Sink.contents c.args.writer.now) (line_by m.category_of m.stringified c.args.plurals.now c.args.settings c.args.sources.now);
          read = search rules;
          write = search rules;
        };
      };
      end = search rules;
      reads = search rules;
      writes = search rules;
      given_up = search rules;
      failed = search rules;
    }

pub returns : goal.returns
returns g c =
    let m = g.M.MemoizerKind in
    let plurals = c.args.plurals.now in
    let settings = c.args.settings in
    let sources = c.args.sources.now in
    let same = line-same m.category_of m.stringified c.in_ok-desk.desk plurals settings _ c.deref.result.now c.in_ok-resources.resources.items sources c.deref.ensures.value c.in_ok-resources.ensures c.in_ok-desk.ensures in
    record {
      answered =
          run-answered m plurals settings sources g.R.Source c.args.reader.now c.serve-outcome.new.reader g.W.Sink c.args.writer.now c.serve-outcome.new.writer c.serve-outcome.result _ same
          (λ others steps input. c.tidied_sources_keep_answers.ensures (texts sources) others steps (m.category_of plurals) (m.stringified plurals (Unit {0}) no_text) (settings_view settings) input)
          c.serve-outcome.ensures.served c.serve-outcome.ensures.end;
      end = c.serve-outcome.ensures.end;
      reads = c.serve-outcome.ensures.reads;
      writes = c.serve-outcome.ensures.writes;
      given_up = c.serve-outcome.ensures.given_up;
      failed = c.serve-outcome.ensures.failed;
    }
