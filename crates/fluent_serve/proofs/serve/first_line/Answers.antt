use Rattle.fluent_serve.proofs.Lines.{no_line_feed, at_line_feed}
use Rattle.fluent_serve.proofs.serve.first_line.Goals as goal

pub returns-in-None : goal.returns-in-None
returns-in-None c = no_line_feed c.args.bytes.now c.in-None.ensures

pub returns-in-Some : goal.returns-in-Some
returns-in-Some c = rw (c.split_at.ensures.front, c.split_at-in-Some.ensures.back, c.split_at.ensures.back) (at_line_feed c.args.bytes.now c.in-Some.end c.in-Some.ensures)
