use Rattle.std.proofs.Common.{arith}
use Rattle.memchr.specs.Find.{is_byte}
use Rattle.fluent_tokens.proofs.Masked.{none_passes, first_passes}
use Rattle.fluent_serve.proofs.find.first_place.Goals as goal

pub loop-place-preserved : goal.loop-place-preserved
loop-place-preserved c = none_passes (is_byte c.args.byte) c.args.text.now c.loop-place.place 16 _ c.places-found.ensures (omega arith) c.if-found-ne0.false c.loop-place.invariant

pub returns-then-found-ne0 : goal.returns-then-found-ne0
returns-then-found-ne0 c = first_passes (is_byte c.args.byte) c.args.text.now c.loop-place.place 16 _ c.places-found.ensures (omega arith) (omega arith) c.if-found-ne0.true c.loop-place.invariant
