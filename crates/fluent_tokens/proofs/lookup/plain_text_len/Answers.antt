use Rattle.std.proofs.Common.{◌+◌, ◌∙◌, ℕ, ap}
use Rattle.std.specs.Int.{from_bool}
use Rattle.fluent_grammar.specs.Words.{line_feed, begins_with}
use Rattle.fluent_tokens.proofs.LineEnds.{line_cuts}
use Rattle.fluent_tokens.proofs.PlainTexts.{plain_text}
use Rattle.fluent_tokens.proofs.lookup.plain_text_len.Goals as goal

pub from-requires : goal.from-requires
from-requires c = (line_cuts c.args.text.now c.args.len c.requires.line).within

pub returns-clause-value : goal.returns-clause-value
returns-clause-value c =
    let feed = c.from-2.ensures ∙ ap from_bool (c.begins_with-has_line_feed.ensures ∙ ap (begins_with line_feed) c.from.ensures) in
    plain_text c.args.text.now c.args.len _ c.requires.line c.requires.plain (ap (λ (k : ℕ). c.args.len + k) feed)
