use Rattle.std.proofs.Common.{◌/◌, arith}
use Rattle.std.proofs.lemmas.Fmt.{decimal_digit, decimal_step}
use Rattle.fluent_serve.proofs.Outcomes.{on_ok_if}
use Rattle.fluent_serve.proofs.answer.push_number.Goals as goal

pub returns-then-number-lt10-clause-ok : goal.returns-then-number-lt10-clause-ok
returns-then-number-lt10-clause-ok c = rw (decimal_digit c.args.number c.if-number-lt10.true) (on_ok_if c.extend_from_slice.result c.extend_from_slice.new.self.items _ _ c.extend_from_slice.ensures.items)

pub returns-then-number-lt100-clause-ok : goal.returns-then-number-lt100-clause-ok
returns-then-number-lt100-clause-ok c =
    rw (decimal_step c.args.number (omega arith) (omega arith), decimal_digit (c.args.number / 10) (omega arith)) (on_ok_if c.extend_from_slice-then-number-lt100.result c.extend_from_slice-then-number-lt100.new.self.items _ _ c.extend_from_slice-then-number-lt100.ensures.items)
