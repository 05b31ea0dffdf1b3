use Rattle.std.proofs.lemmas.Str.{IsUtf8-from_ascii}
use Rattle.fluent_c.proofs.utf8.text_in.Goals as goal

pub from_utf8_unchecked-requires : goal.from_utf8_unchecked-requires
from_utf8_unchecked-requires c = IsUtf8-from_ascii c.args.bytes.now (c.is_short_ascii.ensures c.if-is_short_ascii.true)
