use Rattle.std.proofs.Common.{sym, ◌∙◌}
use Rattle.fluent_tokens.proofs.Scanned.{last_byte, no_line, some_bytes}
use Rattle.fluent_tokens.proofs.lines.ends_line.Goals as goal

pub returns-then-not-is_empty : goal.returns-then-not-is_empty
returns-then-not-is_empty c = sym (last_byte c.args.text.now (some_bytes c.args.text.now (sym c.is_empty.ensures ∙ c.if-not-is_empty.true)))

pub returns-else-not-is_empty : goal.returns-else-not-is_empty
returns-else-not-is_empty c = no_line c.args.text.now c.is_empty.result c.is_empty.ensures c.if-not-is_empty.false
