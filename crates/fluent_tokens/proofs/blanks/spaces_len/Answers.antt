use Rattle.std.proofs.Common.{arith}
use Rattle.fluent_tokens.proofs.Masked.{spaces_through, spaces_stop}
use Rattle.fluent_tokens.proofs.blanks.spaces_len.Goals as goal

pub loop-end-preserved : goal.loop-end-preserved
loop-end-preserved c = record {
  within = omega arith;
  same = omega (arith, c.loop-end.invariant.same, spaces_through c.args.text.now c.loop-end.end 16 (omega arith) (omega (arith, c.no_spaces-others.ensures, c.if-others-ne0.false)));
}

pub returns-then-others-ne0 : goal.returns-then-others-ne0
returns-then-others-ne0 c =
    let stop = spaces_stop c.args.text.now c.loop-end.end 16 _ c.no_spaces-others.ensures (omega arith) (omega arith) c.if-others-ne0.true in
    omega (arith, c.loop-end.invariant.same, stop)
