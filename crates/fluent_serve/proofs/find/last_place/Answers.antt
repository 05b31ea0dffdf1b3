use Rattle.std.proofs.Common.{arith}
use Rattle.memchr.specs.Find.{is_byte}
use Rattle.fluent_tokens.proofs.Masked.{none_passes, first_passes}
use Rattle.fluent_serve.proofs.find.last_place.Goals as goal

pub returns-then-found-eq0 : goal.returns-then-found-eq0
returns-then-found-eq0 c = rw (← c.requires.end) (none_passes (is_byte c.args.byte) c.args.text.now c.args.last 16 _ c.places-found.ensures (omega arith) c.if-found-eq0.true c.requires.before)

pub returns : goal.returns
returns c = first_passes (is_byte c.args.byte) c.args.text.now c.args.last 16 _ c.places-found.ensures (omega arith) (omega arith) c.if-found-eq0.false c.requires.before
