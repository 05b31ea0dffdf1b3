use Rattle.std.proofs.Common.{arith, sym}
use Rattle.lint_findings.proofs.Moves.{numbers_bound, after_continuation, after_character}
use Rattle.lint_findings.proofs.places.SourcePosition.after_byte.Goals as goal

pub overflow_add-result : goal.overflow_add-result
overflow_add-result c =
    let bound = numbers_bound c.args.source.now c.args.self c.requires.place in
    omega (arith, bound.1)

pub returns-then-is_continuation-clause-place : goal.returns-then-is_continuation-clause-place
returns-then-is_continuation-clause-place c =
    after_continuation c.args.source.now c.args.self c.requires.place c.requires.before_end c.requires.on_line (sym c.if-is_continuation.ensures)

pub returns-else-is_continuation-clause-place : goal.returns-else-is_continuation-clause-place
returns-else-is_continuation-clause-place c =
    after_character c.args.source.now c.args.self c.requires.place c.requires.before_end c.requires.on_line (sym c.if-is_continuation.ensures)
