use Rattle.fluent_tokens.proofs.Counted.{cut_hex}
use Rattle.fluent_parser.proofs.parser.Parser.missing_digit.Goals as goal

pub with_next_char-requires : goal.with_next_char-requires
with_next_char-requires g c = rw c.rest.ensures (cut_hex c.args.self.now.rest.now c.args.digits c.requires)
