use Rattle.std.proofs.Common.{◌∙◌, refl, rules, ap, subst, Err}
use Rattle.std.proofs.lemmas.Result.{err_from_is_err_and}
use Rattle.fluent_serve.specs.Devices.{HasFailed}
use Rattle.fluent_serve.proofs.Lines.{unfinished_append}
use Rattle.fluent_serve.proofs.Exchange.{puts_nothing}
use Rattle.fluent_serve.proofs.Serving.{answered_next, answered_front, answered_first, answered_all, answered_left}
use Rattle.fluent_serve.proofs.serve.answer_block.Goals as goal

pub loop-end-preserved : goal.loop-end-preserved
loop-end-preserved g c = record {
  answered = answered_next c.loop-end.waiting.line.items c.loop-end.rest.now c.in-Some.end.now c.in-Some.behind.now c.loop-end.invariant.answered c.loop-end.invariant.line
      c.in-Some.ensures.0 c.in-Some.ensures.1 c.answer_line.new.waiting.line.items c.in_ok-answer_line.ensures.line c.in_ok-answer_line.ensures.put.ok;
  line = rw c.in_ok-answer_line.ensures.line refl;
  failures = c.in_ok-answer_line.ensures.counted.kept (λ ok. absurd cc) ∙ c.loop-end.invariant.failures;
}

pub returns-in_err-answer_line-clause-put : goal.returns-in_err-answer_line-clause-put
returns-in_err-answer_line-clause-put g c =
    let p = err_from_is_err_and c.from_residual.result c.from_residual.ensures.1 in
    record {
      ok = search rules;
      memory = λ is. answered_first c.loop-end.invariant.answered (c.in_err-answer_line.ensures.put.memory (rw (p.1, p.2) at is));
      write = λ is. answered_front c.loop-end.waiting.line.items c.loop-end.rest.now c.in-Some.end.now c.in-Some.behind.now c.loop-end.invariant.answered c.loop-end.invariant.line
          c.in-Some.ensures.0 c.in-Some.ensures.1 (c.in_err-answer_line.ensures.put.write (rw (p.1, p.2) at is));
    }

pub returns-in_err-answer_line-clause-counted : goal.returns-in_err-answer_line-clause-counted
returns-in_err-answer_line-clause-counted g c =
    let p = err_from_is_err_and c.from_residual.result c.from_residual.ensures.1 in
    record {
      failed = λ is. subst (λ n. HasFailed n (g.W.Sink.failures c.answer_line.new.writer)) c.loop-end.invariant.failures (c.in_err-answer_line.ensures.counted.failed (rw (p.1, p.2) at is));
      kept = λ not_write. c.in_err-answer_line.ensures.counted.kept (λ is. not_write (p.1 ∙ (ap Err p.2 ∙ is))) ∙ c.loop-end.invariant.failures;
    }

pub returns-in_err-extend_from_slice-clause-put : goal.returns-in_err-extend_from_slice-clause-put
returns-in_err-extend_from_slice-clause-put g c = record {
  ok = search rules;
  memory = λ is. answered_first c.loop-end.invariant.answered (puts_nothing (g.W.Sink.contents c.loop-end.writer) c.loop-end.waiting.output.items);
  write = search rules;
}

pub returns-clause-put : goal.returns-clause-put
returns-clause-put g c = record {
  ok = answered_all c.loop-end.invariant.answered (unfinished_append c.loop-end.waiting.line.items c.loop-end.rest.now c.loop-end.invariant.line c.in_default.ensures);
  memory = search rules;
  write = search rules;
}

pub returns-clause-line : goal.returns-clause-line
returns-clause-line g c = c.in_ok-extend_from_slice.ensures.items ∙ answered_left c.loop-end.invariant.answered (unfinished_append c.loop-end.waiting.line.items c.loop-end.rest.now c.loop-end.invariant.line c.in_default.ensures)
