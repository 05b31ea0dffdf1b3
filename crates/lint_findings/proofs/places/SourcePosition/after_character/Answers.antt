use Rattle.lint_findings.proofs.Columns.{past_character}
use Rattle.lint_findings.proofs.places.SourcePosition.after_character.Goals as goal

pub loop-place-preserved : goal.loop-place-preserved
loop-place-preserved c = record {
  is_place = past_character c.args.source.now c.loop-place.place c.loop-place.invariant.is_place (λ at.
      let yes = c.is_char_boundary.ensures.test.1 at in let no = c.loop-place-test.true in absurd cc);
  line_start = c.loop-place.invariant.line_start;
  column = c.loop-place.invariant.column;
}
