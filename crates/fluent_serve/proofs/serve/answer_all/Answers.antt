use Rattle.std.proofs.Common.{◌∙◌, refl, arith, ap, subst, inl, Err, rules}
use Rattle.std.proofs.lemmas.List.{length-take}
use Rattle.std.proofs.lemmas.Result.{err_from_is_err_and}
use Rattle.fluent_serve.specs.Devices.{HasFailed}
use Rattle.fluent_serve.proofs.Runs.{at_start, line_free, serves_whole, serves_all, serves_first, first_in_block, front_in_block, block_done, block_cut}
use Rattle.fluent_serve.proofs.Outcomes.{on_ok_map, on_ok_always, failed_now, given_none, given_more}
use Rattle.fluent_serve.proofs.serve.answer_all.Goals as goal

pub loop-init : goal.loop-init
loop-init g c = record {
  so_far = at_start (g.R.Source.remaining c.args.reader.now) (g.W.Sink.contents c.args.writer.now) c.args.waiting.now.line.items c.args.waiting.now.output.items
      (g.E.Engine.reply c.args.engine.now) c.requires.no_line c.requires.no_output;
  given = given_none (g.R.Source.given c.args.reader.now);
  reader = refl;
  writer = refl;
}

pub returns-in_err-count-clause-served : goal.returns-in_err-count-clause-served
returns-in_err-count-clause-served g c = record {
  ok = search rules;
  memory = search rules;
  read = λ is. serves_whole c.loop.invariant.so_far c.in_err-count.ensures.bytes
      (inl (failed_now (g.R.Source.failures c.args.reader.now) (g.R.Source.failures c.loop.reader) (g.R.Source.failures c.read.new.self) c.loop.invariant.reader c.in_err-count.ensures.failed));
  write = search rules;
}

pub returns-in_err-count-clause-given_up : goal.returns-in_err-count-clause-given_up
returns-in_err-count-clause-given_up g c = λ is.
    inl (failed_now (g.R.Source.failures c.args.reader.now) (g.R.Source.failures c.loop.reader) (g.R.Source.failures c.read.new.self) c.loop.invariant.reader c.in_err-count.ensures.failed)

pub returns-then-count-eq0-clause-served : goal.returns-then-count-eq0-clause-served
returns-then-count-eq0-clause-served g c = record {
  ok = on_ok_map c.answer_end.result (serves_all c.loop.invariant.so_far (rw c.if-count-eq0.true at c.in_ok-count.ensures.bytes.0)) c.answer_end.ensures.ok;
  memory = λ is. serves_first c.loop.invariant.so_far (rw c.if-count-eq0.true at c.in_ok-count.ensures.bytes.0) (rw is at c.answer_end.ensures.err);
  read = search rules;
  write = search rules;
}

pub returns-then-count-eq0-clause-end : goal.returns-then-count-eq0-clause-end
returns-then-count-eq0-clause-end g c = on_ok_always c.answer_end.result (c.in_ok-count.ensures.bytes.1 c.if-count-eq0.true (omega (arith, c.requires.room, c.loop.auto.block, c.read.auto.buffer)))

pub returns-then-count-eq0-clause-reads : goal.returns-then-count-eq0-clause-reads
returns-then-count-eq0-clause-reads g c = on_ok_always c.answer_end.result (c.in_ok-count.ensures.failed ∙ c.loop.invariant.reader)

pub answer_block-requires : goal.answer_block-requires
answer_block-requires g c = line_free c.loop.invariant.so_far

pub returns-in_err-answer_block-clause-served : goal.returns-in_err-answer_block-clause-served
returns-in_err-answer_block-clause-served g c =
    let p = err_from_is_err_and c.from_residual-in_err-answer_block.result c.from_residual-in_err-answer_block.ensures.1 in
    record {
      ok = search rules;
      memory = λ is. first_in_block c.loop.invariant.so_far (g.R.Source.remaining c.read.new.self) _ c.in_ok-count.ensures.bytes.0 (c.in_err-answer_block.ensures.put.memory (rw (p.1, p.2) at is));
      read = λ is. absurd (c.in_err-answer_block.ensures.never_read (rw (p.1, p.2) at is));
      write = λ is. front_in_block c.loop.invariant.so_far (g.R.Source.remaining c.read.new.self) _ c.in_ok-count.ensures.bytes.0 (c.in_err-answer_block.ensures.put.write (rw (p.1, p.2) at is));
    }

pub returns-in_err-answer_block-clause-counted : goal.returns-in_err-answer_block-clause-counted
returns-in_err-answer_block-clause-counted g c =
    let p = err_from_is_err_and c.from_residual-in_err-answer_block.result c.from_residual-in_err-answer_block.ensures.1 in
    record {
      failed = λ is. subst (λ n. HasFailed n (g.W.Sink.failures c.answer_block.new.writer)) c.loop.invariant.writer (c.in_err-answer_block.ensures.counted.failed (rw (p.1, p.2) at is));
      kept = λ not_write. c.in_err-answer_block.ensures.counted.kept (λ is. not_write (p.1 ∙ (ap Err p.2 ∙ is))) ∙ c.loop.invariant.writer;
    }

pub returns-in_err-flush-clause-served : goal.returns-in_err-flush-clause-served
returns-in_err-flush-clause-served g c = record {
  ok = search rules;
  memory = search rules;
  read = search rules;
  write = λ is. block_cut c.loop.invariant.so_far (g.R.Source.remaining c.read.new.self) _ c.in_ok-count.ensures.bytes.0 c.in_ok-answer_block.ensures.put.ok c.in_err-flush.ensures.err;
}

pub returns-in_err-flush-clause-counted : goal.returns-in_err-flush-clause-counted
returns-in_err-flush-clause-counted g c =
    let p = err_from_is_err_and c.from_residual-in_err-flush.result c.from_residual-in_err-flush.ensures.1 in
    record {
      failed = λ is. subst (λ n. HasFailed n (g.W.Sink.failures c.flush.new.writer)) (c.in_ok-answer_block.ensures.counted.kept (λ ok. absurd cc) ∙ c.loop.invariant.writer) c.in_err-flush.ensures.failed;
      kept = λ not_write. absurd (not_write (p.1 ∙ ap Err p.2));
    }

pub loop-preserved : goal.loop-preserved
loop-preserved g c = record {
  so_far = block_done c.loop.invariant.so_far (g.R.Source.remaining c.read.new.self) _ c.in_ok-count.ensures.bytes.0 c.in_ok-answer_block.ensures.put.ok c.in_ok-flush.ensures.ok
      c.in_ok-answer_block.ensures.line c.in_ok-flush.ensures.emptied (omega (arith, length-take c.in_ok-count.count c.read.new.buffer, c.in_ok-count.ensures.bound, c.if-count-eq0.false));
  given = given_more (g.R.Source.given c.args.reader.now) (g.R.Source.given c.loop.reader) (g.R.Source.given c.read.new.self) _ c.in_ok-count.count c.loop.invariant.given c.in_ok-count.ensures.counted (omega (arith, c.if-count-eq0.false));
  reader = c.in_ok-count.ensures.failed ∙ c.loop.invariant.reader;
  writer = c.in_ok-flush.ensures.failures ∙ (c.in_ok-answer_block.ensures.counted.kept (λ ok. absurd cc) ∙ c.loop.invariant.writer);
}
