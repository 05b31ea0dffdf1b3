use Rattle.std.proofs.Common.{arith}
use Rattle.fluent_tokens.proofs.Escapes.{digits_end}
use Rattle.fluent_tokens.proofs.escape.digits_len.Goals as goal

pub returns-clause-value : goal.returns-clause-value
returns-clause-value c =
    let ends = c.ceil_char_boundary.ensures in
    digits_end c.args.count c.args.text.now c.min.result c.ceil_char_boundary.result c.min.ensures (ends.bound (omega arith)) ends.boundary ends.nearest
