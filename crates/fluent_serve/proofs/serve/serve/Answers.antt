use Rattle.std.proofs.Common.{subst, ◌∙◌, refl, rules}
use Rattle.fluent_serve.proofs.Runs.{nothing_served, all_written, first_written, whole_written, all_cut, first_cut, whole_cut, front_written}
use Rattle.fluent_serve.proofs.Outcomes.{on_ok_map, on_ok_always, by_outcome}
use Rattle.std.proofs.lemmas.Bool.{false≢true}
use Rattle.fluent_serve.specs.Devices.{HasFailed}
use Rattle.fluent_serve.proofs.serve.serve.Goals as goal

pub returns-in_err-block-clause-served : goal.returns-in_err-block-clause-served
returns-in_err-block-clause-served g c = record {
  ok = search rules;
  memory = λ is. nothing_served (g.R.Source.remaining c.args.reader.now) (g.W.Sink.contents c.args.writer.now) (g.E.Engine.reply c.args.engine.now);
  read = search rules;
  write = search rules;
}

pub returns-then-is_write_failure-clause-served : goal.returns-then-is_write_failure-clause-served
returns-then-is_write_failure-clause-served g c =
    let failed = c.if-is_write_failure.ensures.0 refl in
    record {
      ok = rw failed (search rules);
      memory = λ is. absurd cc;
      read = λ is. absurd cc;
      write = λ is. front_written (c.answer_all-outcome.ensures.served.write is);
    }

pub returns-in_err-flush-clause-served : goal.returns-in_err-flush-clause-served
returns-in_err-flush-clause-served g c = record {
  ok = search rules;
  memory = search rules;
  read = search rules;
  write = λ is.
      let failed = c.in_err-flush.ensures.err in
      by_outcome c.answer_all-outcome.result (λ w. false≢true (c.if-is_write_failure.ensures.1 w))
      (λ ok. all_cut failed (rw ok at c.answer_all-outcome.ensures.served.ok))
      (λ memory. first_cut failed (c.answer_all-outcome.ensures.served.memory memory))
      (λ read. whole_cut failed (c.answer_all-outcome.ensures.served.read read));
}

pub returns-in_err-flush-clause-failed : goal.returns-in_err-flush-clause-failed
returns-in_err-flush-clause-failed g c = λ is.
    subst (λ n. HasFailed n (g.W.Sink.failures c.flush.new.writer)) (c.answer_all-outcome.ensures.counted.kept (λ w. false≢true (c.if-is_write_failure.ensures.1 w))) c.in_err-flush.ensures.failed

pub returns-clause-served : goal.returns-clause-served
returns-clause-served g c = record {
  ok = on_ok_map c.answer_all-outcome.result (all_written c.in_ok-flush.ensures.ok) c.answer_all-outcome.ensures.served.ok;
  memory = λ is. first_written c.in_ok-flush.ensures.ok (c.answer_all-outcome.ensures.served.memory is);
  read = λ is. whole_written c.in_ok-flush.ensures.ok (c.answer_all-outcome.ensures.served.read is);
  write = λ is. absurd (false≢true (c.if-is_write_failure.ensures.1 is));
}

pub returns-clause-writes : goal.returns-clause-writes
returns-clause-writes g c = on_ok_always c.answer_all-outcome.result
    (c.in_ok-flush.ensures.failures ∙ c.answer_all-outcome.ensures.counted.kept (λ w. false≢true (c.if-is_write_failure.ensures.1 w)))
