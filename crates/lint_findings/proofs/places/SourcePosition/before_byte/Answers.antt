use Rattle.std.proofs.Common.{◌≡◌, ◌-◌, suc, arith, sym}
use Rattle.lint_findings.proofs.Within.{has_column, before_continuation, before_character}
use Rattle.lint_findings.proofs.places.SourcePosition.before_byte.Goals as goal

pub overflow_sub-result : goal.overflow_sub-result
overflow_sub-result c =
    let at : suc (c.args.self.offset - 1) ≡ c.args.self.offset = omega arith in
    omega (arith, has_column c.args.source.now c.args.self c.requires.place (c.args.self.offset - 1) at (omega arith) (sym c.if-is_continuation.ensures))

pub returns-then-is_continuation-clause-place : goal.returns-then-is_continuation-clause-place
returns-then-is_continuation-clause-place c =
    before_continuation c.args.source.now c.args.self c.requires.place (c.args.self.offset - 1) (omega arith) (omega arith) (sym c.if-is_continuation.ensures)

pub returns-else-is_continuation-clause-place : goal.returns-else-is_continuation-clause-place
returns-else-is_continuation-clause-place c =
    before_character c.args.source.now c.args.self c.requires.place (c.args.self.offset - 1) (omega arith) (omega arith) (sym c.if-is_continuation.ensures)
