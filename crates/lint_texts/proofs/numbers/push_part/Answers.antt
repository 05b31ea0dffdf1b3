use Rattle.std.proofs.Common.{◌≡◌, ◌∙◌, ◌+◌, ◌<◌, ◌++◌, false, map, drop, length, sym, ap, arith, append_assoc, length-drop, subst, List, ℕ}
use Rattle.lint_findings.specs.Numbers as n
use Rattle.lint_texts.specs.InCode.{number_view}
use Rattle.lint_texts.specs.NumberParts.{if_number, passed_len}
use Rattle.lint_texts.proofs.NumberSteps.{passed_within, step_at}
use Rattle.lint_texts.proofs.numbers.push_part.Goals as goal

pub overflow_add-place : goal.overflow_add-place
overflow_add-place c =
    let s = c.args.part.now in
    let i = c.loop-place.place in
    let view : c.skip.result.now ≡ drop i s = c.skip.ensures ∙ ap (drop i) c.as_bytes-bytes.ensures.value in
    let e : c.passed_len-place.result ≡ passed_len (drop i s) = c.passed_len-place.ensures ∙ ap passed_len view in
    let bound = passed_within (drop i s) (omega (arith, length-drop i s)) in
    omega (arith, e, bound.1, length-drop i s)

pub loop-place-preserved : goal.loop-place-preserved
loop-place-preserved c =
    let s = c.args.part.now in
    let i = c.loop-place.place in
    let view : c.skip.result.now ≡ drop i s = c.skip.ensures ∙ ap (drop i) c.as_bytes-bytes.ensures.value in
    let e : c.passed_len-place.result ≡ passed_len (drop i s) = c.passed_len-place.ensures ∙ ap passed_len view in
    let bound = passed_within (drop i s) (omega (arith, length-drop i s)) in
    let old = map number_view c.loop-place.found.items in
    let new = map number_view c.push_if_number.new.found.items in (
      omega (arith, e, bound.1, length-drop i s),
      ap (λ m. new ++ n.numbers_from false 0 (drop (i + m) s)) e
          ∙ ap (λ z. z ++ n.numbers_from false 0 (drop (i + passed_len (drop i s)) s)) c.in_ok-push_if_number.ensures
          ∙ append_assoc old (if_number (drop i s)) (n.numbers_from false 0 (drop (i + passed_len (drop i s)) s))
          ∙ ap (λ z. old ++ z) (sym (step_at s i (subst (λ (x : List ℕ). i < length x) c.as_bytes-bytes.ensures.value c.loop-place-test.true)))
          ∙ c.loop-place.invariant.1,
    )
