use Rattle.std.proofs.Common.{◌≡◌, ◌∙◌, ◌+◌, ◌++◌, List, ℕ, drop, Some, None, sym, ap, subst, arith}
use Rattle.std.proofs.lemmas.Grind.{common_steps}
use Rattle.memchr.specs.Find.{IsFirstByte, is_byte}
use Rattle.fluent_grammar.specs.Words.{Text}
use Rattle.lint_nodes.specs.HasNames.{HasNames}
use Rattle.lint_nodes.proofs.Unions.{union-append}
use Rattle.lint_findings.specs.Comparison.{union}
use Rattle.lint_findings.specs.Entities as e
use Rattle.lint_markup.specs.Pieces.{ended_after}
use Rattle.lint_markup.proofs.Cuts.{cut_past_sign}
use Rattle.lint_markup.proofs.EntitySteps.{next_entity, no_entity}
use Rattle.lint_markup.proofs.entities.add_entities.Goals as goal

pub range_from-rest-requires : goal.range_from-rest-requires
range_from-rest-requires c = λ _.
    let found = subst (λ (x : List ℕ). IsFirstByte (is_byte 38) x (Some c.in-Some.place)) c.as_bytes.ensures.value c.in-Some.ensures in
    (cut_past_sign 38 (omega arith) c.loop-place.rest.now c.in-Some.place found).boundary c.loop-place.invariant.0

pub loop-place-preserved : goal.loop-place-preserved
loop-place-preserved c =
    let s = c.loop-place.rest.now in
    let n = c.in-Some.place in
    let rest = c.range_from-rest.result.now in
    let found = subst (λ (x : List ℕ). IsFirstByte (is_byte 38) x (Some n)) c.as_bytes.ensures.value c.in-Some.ensures in
    let after : rest ≡ drop (n + 1) s = grind (arith, common_steps, c.range_from-rest.ensures.value) in
    let step : e.entities_in s ≡ ended_after rest ++ e.entities_in rest = next_entity s n found ∙ ap (λ (u : Text). ended_after u ++ e.entities_in u) (sym after) in (
      c.range_from-rest.utf8,
      λ xs has.
          let before = c.loop-place.invariant.1 xs has in
          let ys = before.0 in
          (union ys (ended_after rest), c.in_ok-add_entity.ensures ys before.1, sym (union-append ys (ended_after rest) (e.entities_in rest)) ∙ ap (union ys) (sym step) ∙ before.2),
    )

pub returns : goal.returns
returns c = λ xs has.
    let s = c.loop-place.rest.now in
    let none = subst (λ (x : List ℕ). IsFirstByte (is_byte 38) x None) c.as_bytes.ensures.value c.in_default.ensures in
    let before = c.loop-place.invariant.1 xs has in
    subst (HasNames c.loop-place.names) (sym (ap (union before.0) (no_entity s none)) ∙ before.2) before.1
