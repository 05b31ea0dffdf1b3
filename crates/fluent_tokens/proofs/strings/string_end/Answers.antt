use Rattle.std.proofs.Common.{arith}
use Rattle.fluent_tokens.proofs.Scanned.{take_rest}
use Rattle.fluent_tokens.proofs.StringContent.{string_more, ends_in_quote, ends_in_line_feed, ends_in_nothing, ends_in_escape, ends_in_hex}
use Rattle.std.proofs.lemmas.List.{length-drop}
use Rattle.fluent_tokens.proofs.strings.string_end.Goals as goal

pub loop-end-preserved : goal.loop-end-preserved
loop-end-preserved c =
    let s = c.args.text.now in
    let f = rw (take_rest c.loop-end.end s) at c.in-Part.ensures in
    record {
      within = omega (arith, f.2, length-drop c.loop-end.end s);
      same = string_more s c.loop-end.end c.in-Part.count c.loop-end.invariant.within c.loop-end.invariant.same f.0;
    }

pub returns-in-Quote : goal.returns-in-Quote
returns-in-Quote c =
    let s = c.args.text.now in
    ends_in_quote s c.loop-end.end c.loop-end.invariant.within c.loop-end.invariant.same (rw (take_rest c.loop-end.end s) at c.in-Quote.ensures)

pub returns-in-LineFeed : goal.returns-in-LineFeed
returns-in-LineFeed c =
    let s = c.args.text.now in
    ends_in_line_feed s c.loop-end.end c.loop-end.invariant.within c.loop-end.invariant.same (rw (take_rest c.loop-end.end s) at c.in-LineFeed.ensures)

pub returns-in-UnknownEscape : goal.returns-in-UnknownEscape
returns-in-UnknownEscape c =
    let s = c.args.text.now in
    ends_in_escape s c.loop-end.end c.loop-end.invariant.within c.loop-end.invariant.same (rw (take_rest c.loop-end.end s) at c.in-UnknownEscape.ensures)

pub returns-in-MissingDigit : goal.returns-in-MissingDigit
returns-in-MissingDigit c =
    let s = c.args.text.now in
    ends_in_hex s c.loop-end.end c.in-MissingDigit.count c.loop-end.invariant.within c.loop-end.invariant.same (rw (take_rest c.loop-end.end s) at c.in-MissingDigit.ensures)

pub returns : goal.returns
returns c = ends_in_nothing c.args.text.now c.loop-end.end c.loop-end.invariant.within (omega arith) c.loop-end.invariant.same
