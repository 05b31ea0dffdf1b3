use Rattle.std.proofs.Common.{arith, rules, ◌∙◌}
use Rattle.fluent_tokens.proofs.Counted.{cut_by_ascii}
use Rattle.fluent_tokens.proofs.Scanned.{blank_step, blank_ascii, less_one}
use Rattle.fluent_tokens.proofs.blanks.blank_len.Goals as goal

pub loop-end-preserved : goal.loop-end-preserved
loop-end-preserved c = record {
  within = omega arith;
  same = blank_step c.args.text.now c.loop-end.end (omega arith) (search rules) ∙ c.loop-end.invariant.same;
  ascii = λ _. less_one c.args.text.now c.loop-end.end (blank_ascii c.args.text.now c.loop-end.end (omega arith) (search rules));
}

pub returns-else-is_blank_at-clause-cuts : goal.returns-else-is_blank_at-clause-cuts
returns-else-is_blank_at-clause-cuts c = cut_by_ascii c.args.text.now c.loop-end.end c.loop-end.invariant.within c.loop-end.invariant.ascii
