use Rattle.std.proofs.Common.{arith}
use Rattle.lint_findings.proofs.Moves.{numbers_bound, after_line}
use Rattle.lint_findings.proofs.places.SourcePosition.after_line.Goals as goal

pub overflow_add-result : goal.overflow_add-result
overflow_add-result c =
    let bound = numbers_bound c.args.source.now c.args.self c.requires.place in
    let within = c.requires.feed.within in
    let after = c.requires.feed.not_before in
    omega (arith, bound.0)

pub returns-clause-place : goal.returns-clause-place
returns-clause-place c = after_line c.args.source.now c.args.self c.args.feed c.requires.place c.requires.feed
