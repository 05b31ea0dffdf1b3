use Rattle.ftl_command.specs.Faults.{fault_line}
use Rattle.ftl_command.proofs.TellLemmas.{front_after, front_at_end, front_of_more, on_err, on_err_map}
use Rattle.ftl_command.proofs.telling.write_lines.Goals as goal

pub returns-in_err-write_line-clause-front : goal.returns-in_err-write_line-clause-front
returns-in_err-write_line-clause-front g c =
    on_err c.from_residual.result (front_of_more _ _ (fault_line c.args.fault.now) c.args.why.now c.in_err-write_line.ensures.front)

pub returns-clause-front : goal.returns-clause-front
returns-clause-front g c =
    on_err_map c.write_all.result
    (λ p. front_after _ _ _ (fault_line c.args.fault.now) c.args.why.now c.in_ok-write_line.ensures.written (front_at_end _ _ c.args.why.now (rw c.as_bytes.ensures.value at p)))
    c.write_all.ensures.err
