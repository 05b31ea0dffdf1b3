use Rattle.std.proofs.Common.{[], None, inr, refl}
use Rattle.ftl_command.proofs.InputLemmas.{bytes_end, failed_end}
use Rattle.ftl_files.specs.Tidying.{failed, not_utf8}
use Rattle.ftl_command.proofs.input.tidy_bytes.Goals as goal

pub returns-in-Err-clause-ended : goal.returns-in-Err-clause-ended
returns-in-Err-clause-ended g c =
    let check = c.args.check in
    let bytes = c.args.bytes.now in
    let held = g.O.Sink.contents c.args.writer.now in
    let held_after = g.O.Sink.contents c.write_end.new.writer in
    bytes_end check bytes held held_after (failed not_utf8 None) c.write_end.result (inr (c.in-Err.ensures, refl))
    (failed_end check bytes held held_after [] not_utf8 None c.write_end.result c.write_end.ensures.written)
