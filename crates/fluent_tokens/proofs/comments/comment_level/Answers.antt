use Rattle.std.proofs.Common.{arith}
use Rattle.fluent_tokens.proofs.Scanned.{cut_level}
use Rattle.fluent_tokens.proofs.comments.comment_level.Goals as goal

pub returns-clause-cuts : goal.returns-clause-cuts
returns-clause-cuts c = cut_level c.args.text.now c.min.result (omega (arith, c.signs_len.ensures))
