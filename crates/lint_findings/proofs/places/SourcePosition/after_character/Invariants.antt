use Rattle.std.proofs.Common.{◌≡◌, ◌-◌, length}
use Rattle.lint_findings.specs.PlaceView.{IsPlaceIn}
use Rattle.lint_findings.proofs.places.SourcePosition.after_character.Given as goal

abbrev pub invariant-loop-place : goal.invariant-loop-place
invariant-loop-place l = record {
  is_place : IsPlaceIn l.source l.place;
  line_start : l.place.line_start ≡ l.fn.self.line_start;
  column : l.place.column ≡ l.fn.self.column;
}

abbrev pub decreases-loop-place : goal.decreases-loop-place
decreases-loop-place l = length l.source - l.place.offset
