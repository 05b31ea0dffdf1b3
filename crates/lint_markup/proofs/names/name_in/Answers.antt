use Rattle.std.proofs.Common.{◌≡◌, ◌∙◌, ◌+◌, List, ℕ, drop, Some, None, option_map, sym, ap, subst, arith}
use Rattle.std.specs.Option.{option_or}
use Rattle.std.proofs.lemmas.Grind.{common_steps}
use Rattle.memchr.specs.Find.{IsFirstByte}
use Rattle.lint_findings.specs.Tags as t
use Rattle.lint_markup.specs.Pieces.{name_after}
use Rattle.lint_markup.proofs.Cuts.{cut_past_blank}
use Rattle.lint_markup.proofs.TagSteps.{next_name, no_name}
use Rattle.lint_markup.proofs.names.name_in.Goals as goal

pub range_from-rest-requires : goal.range_from-rest-requires
range_from-rest-requires c = λ _.
    let found = subst (λ (x : List ℕ). IsFirstByte t.is_blank_byte x (Some c.in-Some.place)) c.as_bytes.ensures.value c.in-Some.ensures in
    (cut_past_blank c.loop-place.rest.now c.in-Some.place found).boundary c.loop-place.invariant.0

pub loop-place-preserved : goal.loop-place-preserved
loop-place-preserved c =
    let s = c.loop-place.rest.now in
    let n = c.in-Some.place in
    let rest = c.range_from-rest.result.now in
    let found = subst (λ (x : List ℕ). IsFirstByte t.is_blank_byte x (Some n)) c.as_bytes.ensures.value c.in-Some.ensures in
    let after : rest ≡ drop (n + 1) s = grind (arith, common_steps, c.range_from-rest.ensures.value) in
    let none : name_after rest ≡ None = sym c.name_after.ensures ∙ ap (option_map (λ s. s.now)) c.in_default-name_after.is in (
      c.range_from-rest.utf8,
      ap (λ x. option_or x (t.name_in rest)) (sym none) ∙ ap (λ u. option_or (name_after u) (t.name_in u)) after ∙ sym (next_name s n found) ∙ c.loop-place.invariant.1,
    )

pub returns-in-Some-name_after : goal.returns-in-Some-name_after
returns-in-Some-name_after c =
    let s = c.loop-place.rest.now in
    let n = c.in-Some.place in
    let rest = c.range_from-rest.result.now in
    let found = subst (λ (x : List ℕ). IsFirstByte t.is_blank_byte x (Some n)) c.as_bytes.ensures.value c.in-Some.ensures in
    let after : rest ≡ drop (n + 1) s = grind (arith, common_steps, c.range_from-rest.ensures.value) in
    let some : name_after rest ≡ Some c.in-Some-name_after.name.now = sym c.name_after.ensures ∙ ap (option_map (λ s. s.now)) c.in-Some-name_after.is in
    ap (λ x. option_or x (t.name_in rest)) (sym some) ∙ ap (λ u. option_or (name_after u) (t.name_in u)) after ∙ sym (next_name s n found) ∙ c.loop-place.invariant.1

pub returns : goal.returns
returns c =
    let s = c.loop-place.rest.now in
    let none = subst (λ (x : List ℕ). IsFirstByte t.is_blank_byte x None) c.as_bytes.ensures.value c.in_default.ensures in
    sym (no_name s none) ∙ c.loop-place.invariant.1
