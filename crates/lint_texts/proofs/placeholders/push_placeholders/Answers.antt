use Rattle.std.proofs.Common.{◌≡◌, ◌∙◌, ◌++◌, List, ℕ, map, drop, Some, None, sym, ap, subst, append_assoc, append-nil, arith}
use Rattle.std.proofs.lemmas.Grind.{common_steps}
use Rattle.memchr.specs.Find.{IsFirstByte, is_byte2}
use Rattle.lint_findings.specs.Placeholders as p
use Rattle.lint_texts.specs.InCode.{placeholder_view}
use Rattle.lint_texts.proofs.PlaceholderSteps.{cut_at_sign, cut_after_sign, next_sign, no_sign}
use Rattle.lint_texts.proofs.placeholders.push_placeholders.Goals as goal

pub range_from-at-requires : goal.range_from-at-requires
range_from-at-requires c = λ _.
    let found = subst (λ (x : List ℕ). IsFirstByte (is_byte2 37 123) x (Some c.in-Some.place)) c.as_bytes.ensures.value c.in-Some.ensures in
    (cut_at_sign c.loop-place.rest.now c.in-Some.place found).boundary c.loop-place.invariant.0

pub range_from-rest-requires : goal.range_from-rest-requires
range_from-rest-requires c = λ _.
    let found = subst (λ (x : List ℕ). IsFirstByte (is_byte2 37 123) x (Some c.in-Some.place)) c.as_bytes.ensures.value c.in-Some.ensures in
    let here : c.range_from-at.result.now ≡ drop c.in-Some.place c.loop-place.rest.now = grind (arith, common_steps, c.range_from-at.ensures.value) in
    (cut_after_sign c.loop-place.rest.now c.range_from-at.result.now c.in-Some.place found here).boundary c.range_from-at.utf8

pub loop-place-preserved : goal.loop-place-preserved
loop-place-preserved c =
    let s = c.loop-place.rest.now in
    let n = c.in-Some.place in
    let at = c.range_from-at.result.now in
    let rest = c.range_from-rest.result.now in
    let old = map placeholder_view c.loop-place.found.items in
    let found = subst (λ (x : List ℕ). IsFirstByte (is_byte2 37 123) x (Some n)) c.as_bytes.ensures.value c.in-Some.ensures in
    let here : at ≡ drop n s = grind (arith, common_steps, c.range_from-at.ensures.value) in
    let after : rest ≡ drop 1 at = grind (arith, common_steps, c.range_from-rest.ensures.value) in (
      c.range_from-rest.utf8,
      ap (λ xs. xs ++ p.placeholders_in rest) c.in_ok-push_first.ensures
          ∙ append_assoc old (p.placeholder_at at (p.placeholder_len at)) (p.placeholders_in rest)
          ∙ ap (λ xs. old ++ xs) (sym (next_sign s at rest n found here after)) ∙ c.loop-place.invariant.1,
    )

pub returns : goal.returns
returns c =
    let s = c.loop-place.rest.now in
    let old = map placeholder_view c.loop-place.found.items in
    let none = subst (λ (x : List ℕ). IsFirstByte (is_byte2 37 123) x None) c.as_bytes.ensures.value c.in_default.ensures in
    sym (append-nil old) ∙ ap (λ xs. old ++ xs) (sym (no_sign s none)) ∙ c.loop-place.invariant.1
