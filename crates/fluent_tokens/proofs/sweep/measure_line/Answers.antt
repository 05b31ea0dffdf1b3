use Rattle.std.proofs.Common.{◌≡◌, ◌+◌, ◌-◌, ◌<◌, ◌∙◌, ap, arith, drop, length, subst}
use Rattle.std.proofs.lemmas.List.{length-drop, drop-drop}
use lib.Count.{count_trailing_zeros}
use Rattle.fluent_tokens.specs.Bytes.{is_line_feed}
use Rattle.fluent_tokens.specs.Swept.{Tells}
use Rattle.fluent_tokens.proofs.Masked.{none_passes}
use Rattle.fluent_tokens.proofs.Swept.{plain_more, braced_more, feed_inside, told_line, told_next, told_plain}
use Rattle.fluent_tokens.proofs.sweep.measure_line.Goals as goal

pub loop-told-smaller : goal.loop-told-smaller
loop-told-smaller c =
    let seen = c.loop-told.seen in
    let count = c.loop-told.told.count in
    let all = length c.args.text.now in
    let less : all - (seen + count) + (64 - c.of-told.result.count) < all - seen + (64 - count) = omega (arith, c.of-told.ensures.count, c.loop-told.invariant.within, c.loop-told.invariant.told.short) in
    less

pub loop-told-preserved : goal.loop-told-preserved
loop-told-preserved c =
    let s = c.args.text.now in
    let seen = c.loop-told.seen in
    let told = c.loop-told.told in
    let kept = c.loop-told.invariant in
    let room = kept.within in
    let behind = c.from-behind.ensures in
    record {
      within = omega (arith, c.of-told.ensures.tells.within, ap length behind, length-drop (seen + told.count) s, room);
      told = subst (Tells c.of-told.result) behind c.of-told.ensures.tells;
      feeds = none_passes is_line_feed s seen told.count told.feeds kept.told.feeds room c.loop-told-test.true kept.feeds;
      plain = plain_more s seen told.count told.braces kept.told.braces room kept.told.short c.loop-told.is_plain kept.plain;
      braced = braced_more s seen told.count told.braces kept.told.braces room kept.told.short c.loop-told.is_plain kept.plain kept.braced;
    }

pub before_feed-requires : goal.before_feed-requires
before_feed-requires c =
    let told = c.loop-told.told in
    let kept = c.loop-told.invariant in
    let inside = feed_inside c.args.text.now c.loop-told.seen told.count told.feeds told.braces kept.told.feeds kept.told.braces kept.within kept.told.short c.loop-told-test.false kept.feeds in
    omega (arith, inside, kept.within)

pub behind-requires-clause-place : goal.behind-requires-clause-place
behind-requires-clause-place c =
    let told = c.loop-told.told in
    let kept = c.loop-told.invariant in
    feed_inside c.args.text.now c.loop-told.seen told.count told.feeds told.braces kept.told.feeds kept.told.braces kept.within kept.told.short c.loop-told-test.false kept.feeds

pub returns-clause-line : goal.returns-clause-line
returns-clause-line c =
    let told = c.loop-told.told in
    let kept = c.loop-told.invariant in
    (told_line c.args.text.now c.loop-told.seen told.count told.feeds told.braces kept.told.feeds kept.told.braces kept.within kept.told.short c.loop-told-test.false kept.feeds c.before_feed.result c.before_feed.ensures).0

pub returns-clause-cuts : goal.returns-clause-cuts
returns-clause-cuts c =
    let told = c.loop-told.told in
    let kept = c.loop-told.invariant in
    (told_line c.args.text.now c.loop-told.seen told.count told.feeds told.braces kept.told.feeds kept.told.braces kept.within kept.told.short c.loop-told-test.false kept.feeds c.before_feed.result c.before_feed.ensures).1

pub returns-clause-plain : goal.returns-clause-plain
returns-clause-plain c =
    let told = c.loop-told.told in
    let kept = c.loop-told.invariant in
    told_plain c.args.text.now c.loop-told.seen told.count told.feeds told.braces kept.told.feeds kept.told.braces kept.within kept.told.short c.loop-told-test.false kept.feeds c.loop-told.is_plain kept.plain kept.braced c.before_feed.result c.before_feed.ensures

pub returns-clause-next : goal.returns-clause-next
returns-clause-next c =
    let s = c.args.text.now in
    let seen = c.loop-told.seen in
    let told = c.loop-told.told in
    let kept = c.loop-told.invariant in
    let feed = count_trailing_zeros 64 told.feeds in
    let inside = feed_inside s seen told.count told.feeds told.braces kept.told.feeds kept.told.braces kept.within kept.told.short c.loop-told-test.false kept.feeds in
    let next = told_next s seen told.count told.feeds told.braces kept.told.feeds kept.told.braces kept.within kept.told.short c.loop-told-test.false kept.feeds c.before_feed.result c.before_feed.ensures in
    let place : seen + (feed + 1) ≡ seen + feed + 1 = omega arith in
    let there = drop-drop (feed + 1) seen s ∙ ap (λ k. drop k s) place in (
      next.0,
      next.1,
      omega (arith, inside, kept.within),
      subst (Tells c.behind.result) there (c.behind.ensures (drop seen s) kept.told),
    )
