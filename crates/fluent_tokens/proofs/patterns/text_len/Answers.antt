use Rattle.std.proofs.Common.{arith, refl, ◌∙◌}
use Rattle.std.proofs.Math.Seq.{take-length, drop-length}
use Rattle.fluent_tokens.proofs.Counted.{cut_end, cut_before_ascii}
use Rattle.fluent_tokens.proofs.Scanned.{text_none, text_brace, text_close, text_ends, nowhere_plain, third_byte}
use Rattle.fluent_tokens.proofs.patterns.text_len.Goals as goal

pub returns-in_default : goal.returns-in_default
returns-in_default c =
    let s = c.args.text.now in
    (text_none s (nowhere_plain s _ (c.in_default.ensures)) ∙ rw (take-length s, drop-length s) refl, cut_end s _ refl)

pub returns-then-text-end-eq123 : goal.returns-then-text-end-eq123
returns-then-text-end-eq123 c =
    let s = c.args.text.now in
    let f = c.in-Some.ensures in
    (text_brace s c.in-Some.end f.0.high c.if-text-end-eq123.true (nowhere_plain s _ f.0.before), cut_before_ascii s c.in-Some.end f.0.high (omega arith))

pub returns-then-text-end-eq125 : goal.returns-then-text-end-eq125
returns-then-text-end-eq125 c =
    let s = c.args.text.now in
    let f = c.in-Some.ensures in
    (text_close s c.in-Some.end f.0.high c.if-text-end-eq125.true (nowhere_plain s _ f.0.before), cut_before_ascii s c.in-Some.end f.0.high (omega arith))

pub returns-else-text-end-eq125 : goal.returns-else-text-end-eq125
returns-else-text-end-eq125 c =
    let s = c.args.text.now in
    let f = c.in-Some.ensures in
    text_ends s c.in-Some.end _ c.line_feed_end.ensures f.0.high (third_byte _ f.1 c.if-text-end-eq123.false c.if-text-end-eq125.false) (nowhere_plain s _ f.0.before)
