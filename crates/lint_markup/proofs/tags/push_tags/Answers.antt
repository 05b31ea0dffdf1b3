use Rattle.std.proofs.Common.{◌≡◌, ◌∙◌, ◌++◌, List, ℕ, drop, Some, None, sym, ap, subst, append_assoc, append-nil, arith}
use Rattle.std.proofs.lemmas.Grind.{common_steps}
use Rattle.std.specs.Option.{option_to_list}
use Rattle.memchr.specs.Find.{IsFirstByte, is_byte}
use Rattle.lint_findings.specs.Tags as t
use Rattle.lint_markup.specs.InCode.{tags_of}
use Rattle.lint_markup.proofs.Signs.{cut_after}
use Rattle.lint_markup.proofs.TagSteps.{next_tag, no_tag}
use Rattle.lint_markup.proofs.tags.push_tags.Goals as goal

pub range_from-rest-requires : goal.range_from-rest-requires
range_from-rest-requires c = λ _.
    let found = subst (λ (x : List ℕ). IsFirstByte (is_byte 60) x (Some c.in-Some.place)) c.as_bytes.ensures.value c.in-Some.ensures in
    let here : c.range_from-at.result.now ≡ drop c.in-Some.place c.loop-place.rest.now = grind (arith, common_steps, c.range_from-at.ensures.value) in
    (cut_after 60 c.loop-place.rest.now c.range_from-at.result.now c.in-Some.place (omega arith) found here).boundary c.range_from-at.utf8

pub loop-place-preserved : goal.loop-place-preserved
loop-place-preserved c =
    let s = c.loop-place.rest.now in
    let n = c.in-Some.place in
    let at = c.range_from-at.result.now in
    let rest = c.range_from-rest.result.now in
    let old = tags_of c.loop-place.tags.items in
    let found = subst (λ (x : List ℕ). IsFirstByte (is_byte 60) x (Some n)) c.as_bytes.ensures.value c.in-Some.ensures in
    let here : at ≡ drop n s = grind (arith, common_steps, c.range_from-at.ensures.value) in
    let after : rest ≡ drop 1 (drop n s) = grind (arith, common_steps, c.range_from-rest.ensures.value) in
    let left : option_to_list (t.tag_at at) ++ t.tags_in rest ≡ t.tags_in s =
    ap (λ u. option_to_list (t.tag_at u) ++ t.tags_in rest) here ∙ ap (λ u. option_to_list (t.tag_at (drop n s)) ++ t.tags_in u) after ∙ sym (next_tag s n found) in (
      c.range_from-rest.utf8,
      ap (λ xs. xs ++ t.tags_in rest) c.in_ok-push_first.ensures
          ∙ append_assoc old (option_to_list (t.tag_at at)) (t.tags_in rest)
          ∙ ap (λ xs. old ++ xs) left ∙ c.loop-place.invariant.1,
    )

pub returns : goal.returns
returns c =
    let s = c.loop-place.rest.now in
    let old = tags_of c.loop-place.tags.items in
    let none = subst (λ (x : List ℕ). IsFirstByte (is_byte 60) x None) c.as_bytes.ensures.value c.in_default.ensures in
    sym (append-nil old) ∙ ap (λ xs. old ++ xs) (sym (no_tag s none)) ∙ c.loop-place.invariant.1
