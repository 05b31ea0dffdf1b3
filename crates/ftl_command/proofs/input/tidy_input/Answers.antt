use Rattle.std.proofs.Common.{ap}
use Rattle.std.proofs.lemmas.Result.{IfErr-weaker}
use Rattle.ftl_command.proofs.InputLemmas.{input_end}
use Rattle.ftl_command.proofs.RunLemmas.{kept_by, never_by}
use Rattle.ftl_command.specs.declared.fault.Fault.TheVariants.{Input, Memory}
use Rattle.ftl_command.proofs.input.tidy_input.Goals as goal

pub returns-clause-ended : goal.returns-clause-ended
returns-clause-ended g c =
    input_end c.args.check c.in_ok-bytes.bytes.items (g.O.Sink.contents c.args.writer.now) (g.O.Sink.contents c.tidy_bytes.new.writer)
    (g.I.Source.remaining c.args.reader.now) (g.I.Source.remaining c.read_input.new.reader) c.tidy_bytes.result c.in_ok-bytes.ensures.read (rw c.deref.ensures.value at c.tidy_bytes.ensures.ended)
    (λ memory. ap g.O.Sink.contents (kept_by c.tidy_bytes.result Memory memory (λ same. absurd cc) (IfErr-weaker c.tidy_bytes.result _ _ (λ fault f. f.unwritten) c.tidy_bytes.ensures.stops)))
    (λ input. absurd (never_by c.tidy_bytes.result Input input (IfErr-weaker c.tidy_bytes.result _ _ (λ fault f. f.not_input) c.tidy_bytes.ensures.stops)))
