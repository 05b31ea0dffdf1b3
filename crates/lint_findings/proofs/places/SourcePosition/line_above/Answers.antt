use Rattle.std.proofs.Common.{◌≤◌, length, arith, ◌∙◌}
use Rattle.lint_findings.proofs.Moves.{line_goes_on, line_ended, above}
use Rattle.lint_findings.proofs.places.SourcePosition.line_above.Goals as goal
use Rattle.lint_findings.proofs.places.SourcePosition.line_above.Goals.{then-loop-start-test+else-source-start-ne10, else-loop-start-test}

pub loop-start-preserved : goal.loop-start-preserved
loop-start-preserved c =
    let within : c.loop-start.start ≤ length c.args.source.now = omega (arith, c.requires.place.within, c.requires.place.before, c.loop-start.invariant.earlier) in
    record {
      earlier = omega (arith, c.loop-start.invariant.earlier);
      same_line =
          line_goes_on c.args.source.now c.loop-start.start c.loop-start-test.true within c.if-source-start-ne10.true
          ∙ c.loop-start.invariant.same_line;
    }

pub overflow_sub-result : goal.overflow_sub-result
overflow_sub-result c = omega (arith, line_ended c.args.source.now c.args.self c.requires.place c.requires.not_first)

pub returns-clause-place : goal.returns-clause-place
returns-clause-place c =
    above c.args.source.now c.args.self c.loop-start.start c.requires.place c.requires.not_first c.loop-start.invariant.earlier
    (elim c.loop-start-test.branch [
      | then-loop-start-test+else-source-start-ne10 w ↦ λ _. w.if-source-start-ne10.false
      | else-loop-start-test w ↦ λ some. absurd (omega (arith, w.loop-start-test.false, some))
    ])
    c.loop-start.invariant.same_line
