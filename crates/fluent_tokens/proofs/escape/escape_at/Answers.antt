use Rattle.fluent_tokens.proofs.Chars.{cut_char}
use Rattle.fluent_tokens.proofs.escape.escape_at.Goals as goal

pub returns-in_default-clause-cuts : goal.returns-in_default-clause-cuts
returns-in_default-clause-cuts c = rw c.char_len.ensures (rw c.as_bytes.ensures.value (cut_char c.args.text.now c.utf8.text))
