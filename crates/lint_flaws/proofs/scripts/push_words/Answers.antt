use Rattle.std.proofs.Common.{◌∙◌, ◌+◌, Bool, ◌++◌, map, drop, ap}
use Rattle.lint_findings.specs.View.{remark_view}
use Rattle.lint_findings.specs.Scripts.{words_from}
use Rattle.lint_flaws.proofs.WordSteps.{word_added}
use Rattle.lint_flaws.proofs.scripts.push_words.Goals as goal

pub loop-place-preserved : goal.loop-place-preserved
loop-place-preserved c =
    let s = c.args.text.now in
    let i = c.loop-place.place in
    let t = c.skip-rest.result.now in
    let old = c.loop-place.found.items in
    let new = c.push_if_begins.new.found.items in
    ap (λ (b : Bool). map remark_view new ++ words_from (i + 1) b (drop (i + 1) s)) c.goes_on-within.ensures
    ∙ word_added s i c.loop-place.within t old new c.loop-place-test.true c.skip-rest.ensures c.in_ok-push_if_begins.ensures
    ∙ c.loop-place.invariant
