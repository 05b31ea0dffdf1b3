use Rattle.std.proofs.Common.{◌≡◌, ◌∙◌, List, ℕ, drop, Option, Some, None, option_map, sym, ap, subst, arith}
use Rattle.std.specs.Option.{option_or}
use Rattle.std.proofs.lemmas.Grind.{common_steps}
use Rattle.memchr.specs.Find.{IsFirstByte, is_byte}
use Rattle.fluent_grammar.specs.Words.{Text}
use Rattle.lint_findings.specs.Entities as e
use Rattle.lint_markup.specs.Pieces.{unended_after}
use Rattle.lint_markup.proofs.EntitySteps.{next_unended, none_unended}
use Rattle.lint_markup.proofs.Signs.{cut_after}
use Rattle.lint_markup.proofs.entities.unended_in.Goals as goal

abbrev of_name : Text → Text → e.Unended
of_name at name = record { name = name; at = at }

pub range_from-rest-requires : goal.range_from-rest-requires
range_from-rest-requires c = λ _.
    let found = subst (λ (x : List ℕ). IsFirstByte (is_byte 38) x (Some c.in-Some.place)) c.as_bytes.ensures.value c.in-Some.ensures in
    let here : c.range_from-at.result.now ≡ drop c.in-Some.place c.loop-place.rest.now = grind (arith, common_steps, c.range_from-at.ensures.value) in
    (cut_after 38 c.loop-place.rest.now c.range_from-at.result.now c.in-Some.place (omega arith) found here).boundary c.range_from-at.utf8

pub returns-in-Some-unended_name : goal.returns-in-Some-unended_name
returns-in-Some-unended_name c =
    let s = c.loop-place.rest.now in
    let n = c.in-Some.place in
    let at = c.range_from-at.result.now in
    let rest = c.range_from-rest.result.now in
    let found = subst (λ (x : List ℕ). IsFirstByte (is_byte 38) x (Some n)) c.as_bytes.ensures.value c.in-Some.ensures in
    let here : at ≡ drop n s = grind (arith, common_steps, c.range_from-at.ensures.value) in
    let after : rest ≡ drop 1 at = grind (arith, common_steps, c.range_from-rest.ensures.value) in
    let some : unended_after rest ≡ Some c.in-Some-unended_name.name.now = sym c.unended_name.ensures ∙ ap (option_map (λ s. s.now)) c.in-Some-unended_name.is in
    sym (ap (λ (x : Option Text). option_or (option_map (of_name at) x) (e.unended_in rest)) some) ∙ sym (next_unended s at rest n found here after) ∙ c.loop-place.invariant.1

pub loop-place-preserved : goal.loop-place-preserved
loop-place-preserved c =
    let s = c.loop-place.rest.now in
    let n = c.in-Some.place in
    let at = c.range_from-at.result.now in
    let rest = c.range_from-rest.result.now in
    let found = subst (λ (x : List ℕ). IsFirstByte (is_byte 38) x (Some n)) c.as_bytes.ensures.value c.in-Some.ensures in
    let here : at ≡ drop n s = grind (arith, common_steps, c.range_from-at.ensures.value) in
    let after : rest ≡ drop 1 at = grind (arith, common_steps, c.range_from-rest.ensures.value) in
    let none : unended_after rest ≡ None = sym c.unended_name.ensures ∙ ap (option_map (λ s. s.now)) c.in_default-unended_name.is in (
      c.range_from-rest.utf8,
      sym (ap (λ (x : Option Text). option_or (option_map (of_name at) x) (e.unended_in rest)) none) ∙ sym (next_unended s at rest n found here after) ∙ c.loop-place.invariant.1,
    )

pub returns : goal.returns
returns c =
    let s = c.loop-place.rest.now in
    let none = subst (λ (x : List ℕ). IsFirstByte (is_byte 38) x None) c.as_bytes.ensures.value c.in_default.ensures in
    sym (none_unended s none) ∙ c.loop-place.invariant.1
