use Rattle.fluent_tokens.proofs.Chars.{cut_char}
use Rattle.fluent_parser.proofs.token.first_char.Goals as goal

pub range-requires-clause-end_boundary : goal.range-requires-clause-end_boundary
range-requires-clause-end_boundary c = rw (c.char_len.ensures, c.as_bytes.ensures.value) ((cut_char c.args.text.now c.utf8.text).boundary c.utf8.text)
