use Rattle.std.proofs.Common.{arith, subst}
use Rattle.lint_findings.specs.PlaceView.{NoFeeds}
use Rattle.lint_findings.proofs.Feeds.{next_feed, no_feeds}
use Rattle.lint_findings.proofs.Within.{line_at_place}
use Rattle.lint_findings.proofs.places.SourcePosition.moved_to.Goals as goal

pub after_line-place-requires-clause-feed : goal.after_line-place-requires-clause-feed
after_line-place-requires-clause-feed c =
    let ordered = c.loop-length.invariant.not_after in
    next_feed c.as_bytes-bytes.result.now c.loop-length.place.offset c.min-offset.result ordered (omega arith) c.in-Some.length c.in-Some.ensures

pub loop-place-3-init : goal.loop-place-3-init
loop-place-3-init c =
    let at = c.loop-length.place.offset in
    let end = c.min-offset.result in
    record {
      is_place = c.loop-length.invariant.is_place;
      not_after = c.loop-length.invariant.not_after;
      on_line = subst (λ s. NoFeeds s at end) c.as_bytes-bytes.ensures.value
          (no_feeds c.as_bytes-bytes.result.now at end c.loop-length.invariant.not_after (omega arith) c.in_default.ensures);
    }

pub returns-clause-line : goal.returns-clause-line
returns-clause-line c =
    line_at_place c.args.source.now c.loop-place-3.place c.args.offset c.loop-place-3.invariant.is_place (omega arith)
