use Rattle.std.proofs.Common.{arith}
use Rattle.fluent_tokens.proofs.Counted.{cut_by_ascii}
use Rattle.fluent_tokens.proofs.blanks.blank_block_len.Goals as goal

pub returns-else-is_blank_at-clause-cuts : goal.returns-else-is_blank_at-clause-cuts
returns-else-is_blank_at-clause-cuts c = cut_by_ascii c.args.text.now c.loop-end.line (omega arith) c.loop-end.invariant.ascii

pub returns-after-loop-end-clause-cuts : goal.returns-after-loop-end-clause-cuts
returns-after-loop-end-clause-cuts c = cut_by_ascii c.args.text.now c.loop-end.line (omega arith) c.loop-end.invariant.ascii
