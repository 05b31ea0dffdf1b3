use Rattle.std.proofs.Common.{◌≡◌, ◌∙◌, List, ℕ, ◌<◌, length, drop, Some, None, sym, ap, subst, arith}
use Rattle.std.proofs.lemmas.Grind.{common_steps}
use Rattle.memchr.specs.Find.{IsFirstByte, is_byte}
use Rattle.lint_findings.specs.Tags as t
use Rattle.lint_markup.proofs.Signs.{cut_after}
use Rattle.lint_markup.proofs.TagSteps.{next_broken, none_broken, broken_here, broken_passed}
use Rattle.lint_markup.proofs.broken.broken_in.Goals as goal

pub range_from-rest-requires : goal.range_from-rest-requires
range_from-rest-requires c = λ _.
    let found = subst (λ (x : List ℕ). IsFirstByte (is_byte 60) x (Some c.in-Some.place)) c.as_bytes.ensures.value c.in-Some.ensures in
    let here : c.range_from-at.result.now ≡ drop c.in-Some.place c.loop-place.rest.now = grind (arith, common_steps, c.range_from-at.ensures.value) in
    (cut_after 60 c.loop-place.rest.now c.range_from-at.result.now c.in-Some.place (omega arith) found here).boundary c.range_from-at.utf8

pub loop-place-preserved : goal.loop-place-preserved
loop-place-preserved c =
    let s = c.loop-place.rest.now in
    let n = c.in-Some.place in
    let at = c.range_from-at.result.now in
    let rest = c.range_from-rest.result.now in
    let broken = t.broken_in c.args.all in
    let found = subst (λ (x : List ℕ). IsFirstByte (is_byte 60) x (Some n)) c.as_bytes.ensures.value c.in-Some.ensures in
    let here : at ≡ drop n s = grind (arith, common_steps, c.range_from-at.ensures.value) in
    let after : rest ≡ drop 1 at = grind (arith, common_steps, c.range_from-rest.ensures.value) in (
      c.range_from-rest.utf8,
      ap broken after ∙ sym (broken_passed c.args.all at (sym c.is_broken.ensures ∙ c.if-is_broken.false)) ∙ ap broken here ∙ sym (next_broken c.args.all s n found) ∙ c.loop-place.invariant.1,
    )

pub returns-then-is_broken : goal.returns-then-is_broken
returns-then-is_broken c =
    let s = c.loop-place.rest.now in
    let n = c.in-Some.place in
    let at = c.range_from-at.result.now in
    let broken = t.broken_in c.args.all in
    let found = subst (λ (x : List ℕ). IsFirstByte (is_byte 60) x (Some n)) c.as_bytes.ensures.value c.in-Some.ensures in
    let here : at ≡ drop n s = grind (arith, common_steps, c.range_from-at.ensures.value) in
    let long : 0 < length at = grind (arith, common_steps, c.range_from-at.ensures.value, found.0.high) in
    sym (broken_here c.args.all at long (sym c.is_broken.ensures ∙ c.if-is_broken.true)) ∙ ap broken here ∙ sym (next_broken c.args.all s n found) ∙ c.loop-place.invariant.1

pub returns : goal.returns
returns c =
    let s = c.loop-place.rest.now in
    let none = subst (λ (x : List ℕ). IsFirstByte (is_byte 60) x None) c.as_bytes.ensures.value c.in_default.ensures in
    sym (none_broken c.args.all s none) ∙ c.loop-place.invariant.1
