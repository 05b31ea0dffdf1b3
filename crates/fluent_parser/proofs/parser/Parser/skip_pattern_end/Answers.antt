use Rattle.std.proofs.Common.{◌∙◌, ℕ, List, length, drop, sym, ap}
use Rattle.std.specs.Prelude.{◌==◌}
use Rattle.fluent_grammar.specs.Lines.{pattern_ends}
use Rattle.fluent_parser.proofs.PlainEnds.{end_in_line, end_at_feed, end_at_line}
use Rattle.fluent_parser.proofs.parser.Parser.skip_pattern_end.Goals as goal

pub returns-then-not-at_line_start-clause-end : goal.returns-then-not-at_line_start-clause-end
returns-then-not-at_line_start-clause-end g c =
    end_in_line c.args.at_line_start c.args.self.now.rest.now c.is_empty.result c.if-not-at_line_start.true (c.is_empty.ensures ∙ ap (λ (z : List ℕ). length z == 0) c.bytes.ensures.value)

pub returns-then-is_last_feed-clause-end : goal.returns-then-is_last_feed-clause-end
returns-then-is_last_feed-clause-end g c =
    end_at_feed c.args.at_line_start c.args.self.now.rest.now c.advance.new.self.rest.now c.if-not-at_line_start.false (sym c.is_last_feed.ensures.value ∙ c.if-is_last_feed.true)
    (c.advance.ensures.rest ∙ ap (λ (z : List ℕ). drop 1 z) c.is_last_feed.ensures.stays.rest)

pub returns-clause-end : goal.returns-clause-end
returns-clause-end g c =
    let same = c.is_last_feed.ensures.stays.rest in
    end_at_line c.args.at_line_start c.args.self.now.rest.now c.row.new.self.rest.now c.row.result.ends_pattern c.if-not-at_line_start.false (sym c.is_last_feed.ensures.value ∙ c.if-is_last_feed.false)
    (c.row.ensures.ends_pattern ∙ ap pattern_ends same) (c.row.ensures.stays.rest ∙ same)
