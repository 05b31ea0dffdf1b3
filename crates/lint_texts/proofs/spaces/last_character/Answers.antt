use Rattle.std.proofs.Common.{◌≡◌, ◌∙◌, ◌-◌, ◌+◌, drop, sym, arith}
use Rattle.lint_texts.proofs.EdgeSteps.{AllContinue, all_is, last_is}
use Rattle.lint_texts.proofs.spaces.last_character.Goals as goal

pub returns-then-not-continues : goal.returns-then-not-continues
returns-then-not-continues c =
    let s = c.args.text.now in
    let n = c.loop-place.place in
    let e : n ≡ n - 1 + 1 = omega arith in
    let rest : AllContinue (drop (n - 1 + 1) s) = rw e at c.loop-place.invariant.1 in
    c.skip.ensures ∙ sym (last_is s (n - 1) (omega arith) (sym c.continues.ensures ∙ c.if-not-continues.true) rest)

pub returns : goal.returns
returns c =
    let s = c.args.text.now in
    let e : c.loop-place.place ≡ 0 = omega arith in
    let all : AllContinue (drop 0 s) = rw e at c.loop-place.invariant.1 in
    sym (all_is s all)
