use Rattle.std.proofs.Common.{length, sym, arith}
use Rattle.fluent_tokens.proofs.Scanned.{line_is_all, nowhere_plain}
use Rattle.fluent_tokens.proofs.Measured.{line_ends, no_feed, before_feed_le, plain_front, not_plain}
use Rattle.fluent_tokens.proofs.lines.measure_long_line.Goals as goal

pub returns-in_default-clause-value : goal.returns-in_default-clause-value
returns-in_default-clause-value c =
    let s = c.args.text.now in
    line_is_all s (no_feed s (length s) (nowhere_plain s _ c.in_default.ensures))

pub returns-in_default-clause-plain : goal.returns-in_default-clause-plain
returns-in_default-clause-plain c =
    let s = c.args.text.now in
    sym (plain_front s (length s) (length s) (nowhere_plain s _ c.in_default.ensures) (omega arith))

pub returns-then-text-end-eq10-clause-value : goal.returns-then-text-end-eq10-clause-value
returns-then-text-end-eq10-clause-value c =
    let s = c.args.text.now in
    let f = c.in-Some.ensures in
    (line_ends s c.in-Some.end _ c.before_feed.ensures f.0.high c.if-text-end-eq10.true (no_feed s _ (nowhere_plain s _ f.0.before))).0

pub returns-then-text-end-eq10-clause-plain : goal.returns-then-text-end-eq10-clause-plain
returns-then-text-end-eq10-clause-plain c =
    let s = c.args.text.now in
    let end = c.in-Some.end in
    sym (plain_front s end c.before_feed.result (nowhere_plain s end c.in-Some.ensures.0.before) (before_feed_le s end _ c.before_feed.ensures))

pub returns-else-text-end-eq10-clause-plain : goal.returns-else-text-end-eq10-clause-plain
returns-else-text-end-eq10-clause-plain c =
    let s = c.args.text.now in
    let end = c.in-Some.end in
    let f = c.in-Some.ensures in
    sym (not_plain s end c.line_len.result (nowhere_plain s end f.0.before) f.1 c.if-text-end-eq10.false f.0.high c.line_len.ensures.value c.line_len.ensures.cuts.within)
