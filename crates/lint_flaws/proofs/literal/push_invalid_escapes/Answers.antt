use Rattle.std.proofs.Common.{◌≡◌, ◌∙◌, ◌++◌, map, drop, sym, ap, subst, arith, append_assoc, append-nil, Some, None, List, ℕ}
use Rattle.std.proofs.lemmas.Grind.{common_steps}
use Rattle.memchr.specs.Find.{IsFirstByte, is_byte}
use Rattle.lint_findings.specs.Escapes.{invalid_escapes}
use Rattle.lint_flaws.specs.Escape.{escape_there}
use Rattle.lint_flaws.proofs.Backslashes.{backslash_is_next, no_backslash}
use Rattle.lint_flaws.proofs.literal.push_invalid_escapes.Goals as goal

pub loop-place-preserved : goal.loop-place-preserved
loop-place-preserved c =
    let s = c.loop-place.rest.now in
    let n = c.in-Some.place in
    let rest = invalid_escapes c.after_escape-rest.result.now in
    let found = subst (λ (x : List ℕ). IsFirstByte (is_byte 92) x (Some n)) c.as_bytes.ensures.value c.in-Some.ensures in
    let text : c.range_from-text.result.now ≡ drop n s = grind (arith, common_steps, c.range_from-text.ensures.value) in
    let left : escape_there c.range_from-text.result.now ++ rest ≡ invalid_escapes s = sym c.after_escape-rest.ensures.rest ∙ ap invalid_escapes text ∙ sym (backslash_is_next s n found) in (
      c.after_escape-rest.utf8,
      ap (λ xs. xs ++ rest) c.in_ok-push_if_invalid.ensures
          ∙ append_assoc (map (λ x. x.now) c.loop-place.found.items) (escape_there c.range_from-text.result.now) rest
          ∙ ap (λ xs. map (λ x. x.now) c.loop-place.found.items ++ xs) left ∙ c.loop-place.invariant.1,
    )

pub returns : goal.returns
returns c =
    let s = c.loop-place.rest.now in
    let none = subst (λ (x : List ℕ). IsFirstByte (is_byte 92) x None) c.as_bytes.ensures.value c.in_default.ensures in
    sym (append-nil (map (λ x. x.now) c.loop-place.found.items)) ∙ ap (λ xs. map (λ x. x.now) c.loop-place.found.items ++ xs) (sym (no_backslash s none)) ∙ c.loop-place.invariant.1
