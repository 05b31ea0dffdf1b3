use Rattle.std.proofs.Common.{◌≡◌, ◌∙◌, true, false, drop, sym, ap}
use Rattle.fluent_grammar.specs.Words.{begins_with}
use Rattle.fluent_grammar.specs.Lines.{pattern_ends}
use Rattle.lint_nodes.specs.Rests.{after_texts, after_lines}
use Rattle.lint_nodes.proofs.AfterTexts.{stop_is_next, no_stop, at_brace, next_line, line_over, line_goes_on}
use Rattle.lint_nodes.proofs.texts.after_texts.Goals as goal

pub returns-then-begins_with : goal.returns-then-begins_with
returns-then-begins_with c =
    let found = c.skip-found.result.now in
    sym (at_brace found (sym c.begins_with.ensures ∙ c.if-begins_with.true))
    ∙ ap after_texts c.skip-found.ensures ∙ sym (stop_is_next c.loop-stop.rest.now c.in-Some.stop c.in-Some.ensures) ∙ c.loop-stop.invariant

pub returns-then-pattern_ends : goal.returns-then-pattern_ends
returns-then-pattern_ends c =
    let s = c.loop-stop.rest.now in
    let n = c.in-Some.stop in
    let apart : begins_with 123 (drop n s) ≡ false = ap (begins_with 123) (sym c.skip-found.ensures) ∙ sym c.begins_with.ensures ∙ c.if-begins_with.false in
    let left : c.skip-rest.result.now ≡ drop 1 (drop n s) = c.skip-rest.ensures ∙ ap (drop 1) c.skip-found.ensures in
    sym (line_over c.skip-rest.result.now (sym c.pattern_ends.ensures ∙ c.if-pattern_ends.true)) ∙ ap after_lines left ∙ sym (next_line s n c.in-Some.ensures apart) ∙ c.loop-stop.invariant

pub loop-stop-preserved : goal.loop-stop-preserved
loop-stop-preserved c =
    let s = c.loop-stop.rest.now in
    let n = c.in-Some.stop in
    let apart : begins_with 123 (drop n s) ≡ false = ap (begins_with 123) (sym c.skip-found.ensures) ∙ sym c.begins_with.ensures ∙ c.if-begins_with.false in
    let left : c.skip-rest.result.now ≡ drop 1 (drop n s) = c.skip-rest.ensures ∙ ap (drop 1) c.skip-found.ensures in
    sym (line_goes_on c.skip-rest.result.now (sym c.pattern_ends.ensures ∙ c.if-pattern_ends.false)) ∙ ap after_lines left ∙ sym (next_line s n c.in-Some.ensures apart) ∙ c.loop-stop.invariant

pub returns : goal.returns
returns c = c.skip.ensures ∙ sym (no_stop c.loop-stop.rest.now c.in_default.ensures) ∙ c.loop-stop.invariant
