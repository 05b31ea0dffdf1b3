use Rattle.std.proofs.Common.{◌≡◌, ◌∙◌, ◌-◌, ℕ, List, length, drop, Some, None, option_map, sym, ap, subst, arith}
use Rattle.std.proofs.lemmas.Grind.{common_steps}
use Rattle.memchr.specs.Find.{IsFirstByte, is_byte}
use Rattle.lint_findings.specs.Quoted.{quoted_in, reference_in_braces}
use Rattle.lint_flaws.specs.QuotedView.{reference_text}
use Rattle.lint_flaws.proofs.Braces.{brace_is_next, no_brace, brace_passed, found_there}
use Rattle.lint_flaws.proofs.quoted.first_quoted.Goals as goal

pub loop-place-preserved : goal.loop-place-preserved
loop-place-preserved c =
    let s = c.loop-place.rest.now in
    let k = c.in-Some.place in
    let n = length c.args.raw.now in
    let t = c.range_from-text.result.now in
    let found = subst (λ (x : List ℕ). IsFirstByte (is_byte 123) x (Some k)) c.as_bytes.ensures.value c.in-Some.ensures in
    let text : t ≡ drop k s = grind (arith, common_steps, c.range_from-text.ensures.value) in
    let none : reference_in_braces t ≡ None = sym c.reference_in_braces.ensures ∙ ap (option_map reference_text) c.in_default-reference_in_braces.is in (
      c.after_brace-rest.utf8,
      ap (quoted_in n) c.after_brace-rest.ensures.rest ∙ sym (brace_passed n t none) ∙ ap (quoted_in n) text ∙ sym (brace_is_next n s k found) ∙ c.loop-place.invariant.1,
    )

pub returns-in-Some-reference_in_braces : goal.returns-in-Some-reference_in_braces
returns-in-Some-reference_in_braces c =
    let s = c.loop-place.rest.now in
    let k = c.in-Some.place in
    let n = length c.args.raw.now in
    let t = c.range_from-text.result.now in
    let i = c.saturating_sub-inside.result in
    let r = reference_text c.in-Some-reference_in_braces.reference in
    let found = subst (λ (x : List ℕ). IsFirstByte (is_byte 123) x (Some k)) c.as_bytes.ensures.value c.in-Some.ensures in
    let text : t ≡ drop k s = grind (arith, common_steps, c.range_from-text.ensures.value) in
    let some : reference_in_braces t ≡ Some r = sym c.reference_in_braces.ensures ∙ ap (option_map reference_text) c.in-Some-reference_in_braces.is in
    let place : i ≡ n - length (drop 1 t) = grind (arith, common_steps, c.saturating_sub-inside.ensures, c.after_brace-rest.ensures.rest) in
    sym (found_there n i t r some place) ∙ ap (quoted_in n) text ∙ sym (brace_is_next n s k found) ∙ c.loop-place.invariant.1

pub returns : goal.returns
returns c =
    let s = c.loop-place.rest.now in
    let none = subst (λ (x : List ℕ). IsFirstByte (is_byte 123) x None) c.as_bytes.ensures.value c.in_default.ensures in
    sym (no_brace (length c.args.raw.now) s none) ∙ c.loop-place.invariant.1
