use Rattle.std.proofs.Common.{◌≡◌, ◌∙◌, ℕ, List, drop, true, false, Some, None, sym, ap, subst, arith, rules}
use Rattle.std.proofs.lemmas.Grind.{common_steps}
use Rattle.memchr.specs.Find.{IsFirstByte, is_byte}
use Rattle.fluent_grammar.specs.Words.{begins_with, space}
use Rattle.lint_findings.specs.Doubled.{doubled_later, is_doubled}
use Rattle.lint_markup.proofs.Signs.{sign_there}
use Rattle.lint_texts.proofs.DoubledSteps.{found_there, from_space, no_space, space_passed}
use Rattle.lint_texts.proofs.doubled.doubled_later.Goals as goal

pub loop-place-preserved : goal.loop-place-preserved
loop-place-preserved c =
    let s = c.loop-place.rest.now in
    let k = c.in-Some.place in
    let t = c.range_from.result.now in
    let found = subst (λ (x : List ℕ). IsFirstByte (is_byte 32) x (Some k)) c.as_bytes.ensures.value c.in-Some.ensures in
    let text : t ≡ drop k s = grind (arith, common_steps, c.range_from.ensures.value) in
    let begins : begins_with space t ≡ true = ap (begins_with space) text ∙ sign_there 32 s k found in
    let none : is_doubled (drop 1 t) ≡ false = search rules in (
      c.after_space-rest.utf8,
      ap doubled_later c.after_space-rest.ensures.rest ∙ sym (space_passed t begins none) ∙ ap doubled_later text ∙ sym (from_space s k found) ∙ c.loop-place.invariant.1,
    )

pub returns-then-is_doubled : goal.returns-then-is_doubled
returns-then-is_doubled c =
    let s = c.loop-place.rest.now in
    let k = c.in-Some.place in
    let t = c.range_from.result.now in
    let found = subst (λ (x : List ℕ). IsFirstByte (is_byte 32) x (Some k)) c.as_bytes.ensures.value c.in-Some.ensures in
    let text : t ≡ drop k s = grind (arith, common_steps, c.range_from.ensures.value) in
    let begins : begins_with space t ≡ true = ap (begins_with space) text ∙ sign_there 32 s k found in
    let there : is_doubled (drop 1 t) ≡ true = search rules in
    ap Some c.after_space-rest.ensures.rest ∙ sym (found_there t begins there) ∙ ap doubled_later text ∙ sym (from_space s k found) ∙ c.loop-place.invariant.1

pub returns : goal.returns
returns c =
    let s = c.loop-place.rest.now in
    let none = subst (λ (x : List ℕ). IsFirstByte (is_byte 32) x None) c.as_bytes.ensures.value c.in_default.ensures in
    sym (no_space s none) ∙ c.loop-place.invariant.1
