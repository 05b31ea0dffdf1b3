use Rattle.std.proofs.Common.{◌-◌, ◌≤◌}
use Rattle.lint_findings.specs.PlaceView.{IsPlaceIn, NoFeeds}
use Rattle.lint_findings.proofs.places.SourcePosition.moved_to.Given as goal

abbrev pub invariant-loop-place : goal.invariant-loop-place
invariant-loop-place l = IsPlaceIn l.source l.place

abbrev pub decreases-loop-place : goal.decreases-loop-place
decreases-loop-place l = l.place.line_start

abbrev pub invariant-loop-place-2 : goal.invariant-loop-place-2
invariant-loop-place-2 l = record {
  is_place : IsPlaceIn l.source l.place;
  line_start : l.place.line_start ≤ l.offset;
}

abbrev pub decreases-loop-place-2 : goal.decreases-loop-place-2
decreases-loop-place-2 l = l.place.offset

abbrev pub invariant-loop-length : goal.invariant-loop-length
invariant-loop-length l = record {
  is_place : IsPlaceIn l.source l.place;
  not_after : l.place.offset ≤ l.offset;
}

abbrev pub decreases-loop-length : goal.decreases-loop-length
decreases-loop-length l = l.offset - l.place.offset

abbrev pub invariant-loop-place-3 : goal.invariant-loop-place-3
invariant-loop-place-3 l = record {
  is_place : IsPlaceIn l.source l.place;
  not_after : l.place.offset ≤ l.offset;
  on_line : NoFeeds l.source l.place.offset l.offset;
}

abbrev pub decreases-loop-place-3 : goal.decreases-loop-place-3
decreases-loop-place-3 l = l.offset - l.place.offset
