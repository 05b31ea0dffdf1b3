use Rattle.std.proofs.Common.{◌∙◌}
use Rattle.fluent_symbols.proofs.LinePlaces.{next_of_last, next_of_other}
use Rattle.fluent_symbols.proofs.places.next_line.Goals as goal

pub returns-then-feed-eq0 : goal.returns-then-feed-eq0
returns-then-feed-eq0 c =
    c.skip.ensures
    ∙ next_of_last c.args.text.now c.skip-end.result.now c.line_len-len.result c.line_end_len-feed.result c.line_len-len.ensures.value c.skip-end.ensures c.line_end_len-feed.ensures.value c.if-feed-eq0.true

pub returns : goal.returns
returns c =
    c.skip-2.ensures
    ∙ next_of_other c.args.text.now c.skip-end.result.now c.line_len-len.result c.line_end_len-feed.result c.line_len-len.ensures.value c.skip-end.ensures c.line_end_len-feed.ensures.value c.if-feed-eq0.false
