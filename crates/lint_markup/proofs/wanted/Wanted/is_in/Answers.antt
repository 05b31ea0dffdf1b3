use Rattle.std.proofs.Common.{◌≡◌, ◌∙◌, ◌||◌, List, ℕ, drop, Some, None, sym, ap, subst, arith}
use Rattle.std.proofs.lemmas.Grind.{common_steps}
use Rattle.memchr.specs.Find.{IsFirstByte, is_byte}
use Rattle.lint_findings.specs.Tags as t
use Rattle.lint_markup.specs.Wanted.{is_found, is_wanted}
use Rattle.lint_markup.proofs.Signs.{cut_after}
use Rattle.lint_markup.proofs.TagSteps.{next_wanted, none_wanted}
use Rattle.lint_markup.proofs.wanted.Wanted.is_in.Goals as goal

pub range_from-rest-requires : goal.range_from-rest-requires
range_from-rest-requires c = λ _.
    let found = subst (λ (x : List ℕ). IsFirstByte (is_byte 60) x (Some c.in-Some.place)) c.as_bytes.ensures.value c.in-Some.ensures in
    let here : c.range_from-at.result.now ≡ drop c.in-Some.place c.loop-place.rest.now = grind (arith, common_steps, c.range_from-at.ensures.value) in
    (cut_after 60 c.loop-place.rest.now c.range_from-at.result.now c.in-Some.place (omega arith) found here).boundary c.range_from-at.utf8

pub loop-place-preserved : goal.loop-place-preserved
loop-place-preserved c =
    let s = c.loop-place.rest.now in
    let n = c.in-Some.place in
    let at = c.range_from-at.result.now in
    let rest = c.range_from-rest.result.now in
    let wanted = c.args.self.now in
    let found = subst (λ (x : List ℕ). IsFirstByte (is_byte 60) x (Some n)) c.as_bytes.ensures.value c.in-Some.ensures in
    let here : at ≡ drop n s = grind (arith, common_steps, c.range_from-at.ensures.value) in
    let after : rest ≡ drop 1 (drop n s) = grind (arith, common_steps, c.range_from-rest.ensures.value) in
    let not_here = sym (ap (λ u. is_found wanted (t.tag_at u)) here) ∙ sym c.is_at.ensures ∙ c.if-is_at.false in (
      c.range_from-rest.utf8,
      ap (is_wanted wanted) after ∙ sym (ap (λ b. b || is_wanted wanted (drop 1 (drop n s))) not_here) ∙ sym (next_wanted wanted s n found) ∙ c.loop-place.invariant.1,
    )

pub returns-then-is_at : goal.returns-then-is_at
returns-then-is_at c =
    let s = c.loop-place.rest.now in
    let n = c.in-Some.place in
    let at = c.range_from-at.result.now in
    let wanted = c.args.self.now in
    let found = subst (λ (x : List ℕ). IsFirstByte (is_byte 60) x (Some n)) c.as_bytes.ensures.value c.in-Some.ensures in
    let here : at ≡ drop n s = grind (arith, common_steps, c.range_from-at.ensures.value) in
    let is_here = sym (ap (λ u. is_found wanted (t.tag_at u)) here) ∙ sym c.is_at.ensures ∙ c.if-is_at.true in
    sym (ap (λ b. b || is_wanted wanted (drop 1 (drop n s))) is_here) ∙ sym (next_wanted wanted s n found) ∙ c.loop-place.invariant.1

pub returns : goal.returns
returns c =
    let s = c.loop-place.rest.now in
    let none = subst (λ (x : List ℕ). IsFirstByte (is_byte 60) x None) c.as_bytes.ensures.value c.in_default.ensures in
    sym (none_wanted c.args.self.now s none) ∙ c.loop-place.invariant.1
