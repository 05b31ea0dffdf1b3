use Rattle.fluent_tokens.proofs.Scanned.{test_of, line_is_all}
use Rattle.fluent_tokens.proofs.Measured.{line_ends}
use Rattle.fluent_tokens.proofs.lines.line_len.Goals as goal

pub returns-in_default-clause-value : goal.returns-in_default-clause-value
returns-in_default-clause-value c = line_is_all c.args.text.now (c.in_default.ensures)

pub returns-clause-value : goal.returns-clause-value
returns-clause-value c =
    let f = c.in-Some.ensures in
    (line_ends c.args.text.now c.in-Some.end _ c.before_feed.ensures f.0.high (test_of _ _ f.1) f.0.before).0
