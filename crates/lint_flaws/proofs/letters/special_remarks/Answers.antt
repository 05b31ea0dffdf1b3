use Rattle.std.proofs.Common.{◌∙◌, ℕ, ◌+◌, Bool, ◌++◌, map, drop, get_or, refl, ap}
use Rattle.lint_findings.specs.View.{remark_view}
use Rattle.lint_findings.specs.Letters.{letters_from, begins_after}
use Rattle.lint_flaws.proofs.LetterSteps.{letters_added}
use Rattle.lint_flaws.proofs.letters.special_remarks.Goals as goal

pub loop-place-preserved : goal.loop-place-preserved
loop-place-preserved c =
    let s = c.args.text.now in
    let i = c.loop-place.place in
    let t = c.skip-rest.result.now in
    let old = c.loop-place.found.items in
    let new = c.push_placed.new.found.items in
    ap (λ (b : Bool). map remark_view new ++ letters_from (i + 1) b c.depth_after-depth.result (drop (i + 1) s)) c.begins_after-begins.ensures
    ∙ ap (λ (d : ℕ). map remark_view new ++ letters_from (i + 1) (begins_after c.loop-place.begins (get_or s i 0)) d (drop (i + 1) s)) c.depth_after-depth.ensures
    ∙ letters_added s i c.loop-place.begins c.loop-place.depth t (get_or s i 0) old new c.loop-place-test.true c.skip-rest.ensures refl c.in_ok-push_placed.ensures
    ∙ c.loop-place.invariant
