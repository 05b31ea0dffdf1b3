use Rattle.fluent_parser.proofs.PlainEnds.{on_at_line}
use Rattle.fluent_parser.proofs.parser.Parser.next_text.Goals as goal

pub returns-then-at_line_start-clause-text : goal.returns-then-at_line_start-clause-text
returns-then-at_line_start-clause-text g c = on_at_line c.args.at_line_start c.args.self.now.rest.now c.plain_line.result c.if-at_line_start.true c.plain_line.ensures.line
