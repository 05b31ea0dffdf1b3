use Rattle.std.proofs.Common.{arith}
use Rattle.fluent_tokens.proofs.Masked.{stops_none, stops_at, stops_behind_none, stops_behind_at}
use Rattle.fluent_tokens.proofs.Scanned.{take_rest}
use Rattle.fluent_tokens.proofs.patterns.stop.Goals as goal

pub loop-end-preserved : goal.loop-end-preserved
loop-end-preserved c = record {
  within = omega arith;
  before = stops_none c.args.text.now c.loop-end.end 16 _ c.stops-found.ensures (omega arith) c.if-found-ne0.false c.loop-end.invariant.before;
}

pub returns-then-found-ne0 : goal.returns-then-found-ne0
returns-then-found-ne0 c = stops_at c.args.text.now c.loop-end.end 16 _ c.stops-found.ensures (omega arith) (omega arith) c.if-found-ne0.true c.loop-end.invariant.before

pub returns-in_err-behind : goal.returns-in_err-behind
returns-in_err-behind c =
    let d = c.args.text.now in
    stops_behind_none d c.loop-end.end _ c.loop-end.invariant.within c.from_residual.ensures c.loop-end.invariant.before (rw (take_rest c.loop-end.end d) at c.in_err-behind.ensures)

pub returns : goal.returns
returns c =
    let d = c.args.text.now in
    stops_behind_at d c.loop-end.end c.in_ok-behind.behind c.loop-end.invariant.within c.loop-end.invariant.before (rw (take_rest c.loop-end.end d) at c.in_ok-behind.ensures)
