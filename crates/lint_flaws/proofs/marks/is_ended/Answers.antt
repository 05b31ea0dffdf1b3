use Rattle.std.proofs.Common.{◌≡◌, ◌∙◌, ◌+◌, drop, sym, ap}
use Rattle.std.specs.Prelude.{◌==◌, ◌&&◌}
use Rattle.fluent_grammar.specs.Words.{Text, line_feed, begins_with}
use Rattle.lint_findings.specs.Letters.{closes, depth_after, is_ended}
use Rattle.lint_flaws.proofs.LetterSteps.{ended_next}
use Rattle.lint_flaws.proofs.marks.is_ended.Goals as goal

pub loop-place-preserved : goal.loop-place-preserved
loop-place-preserved c =
    let s = c.args.text.now in
    let i = c.loop-place.place in
    let is : c.skip-rest.result.now ≡ drop i s = c.skip-rest.ensures in
    ap (λ d. is_ended d (drop (i + 1) s)) (c.depth_after-depth.ensures ∙ ap (depth_after c.loop-place.depth) is)
    ∙ sym (ended_next s i c.loop-place.depth c.loop-place-test.true
    (ap (begins_with line_feed) (sym is) ∙ sym c.begins_with.ensures ∙ c.if-begins_with.false)
    (ap (λ (t : Text). closes t && c.loop-place.depth == 0) (sym is) ∙ sym c.ends.ensures ∙ c.if-ends.false))
    ∙ c.loop-place.invariant
