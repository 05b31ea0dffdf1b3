use Rattle.std.proofs.Common.{◌≡◌, List, length, rules, ℕ, Bor, map, sym, ap, ◌∙◌}
use Rattle.std.proofs.lemmas.List.{nil_from_length}
use Rattle.fluent_ast.specs.View.{element_view, elements_of}
use Rattle.fluent_ast.proofs.Views.{element_view-Placeable, element_view-TextElement, pattern_view-out}
use Rattle.fluent_resolver.specs.Asked.{lone_text}
use Rattle.fluent_resolver.proofs.Asking.{lone-placeable, lone-several, lone-text, not-nil}
use Rattle.fluent_resolver.proofs.answer.lone_text.Goals as goal
use Rattle.fluent_resolver.proofs.answer.lone_text.Goals.{in_default-via-in-TextElement+else-is_empty, in_default-via-in_default}

pub returns-in-TextElement : goal.returns-in-TextElement
returns-in-TextElement c =
    let view = element_view (Bor (List ℕ)) (λ s. s.now) in
    let is_whole = ap (λ ys. elements_of (map view ys)) c.deref.ensures.value ∙ sym (pattern_view-out (Bor (List ℕ)) (λ s. s.now) c.args.pattern.now) in
    let is = ap view c.in-TextElement.is ∙ element_view-TextElement (Bor (List ℕ)) (λ s. s.now) c.in-TextElement.value in
    let none : length c.in_ok-first.rest.now ≡ 0 = search rules in
    let alone = nil_from_length c.in_ok-first.rest.now none in
    sym (ap lone_text (sym is_whole) ∙ lone-text view c.deref.result.now c.in_ok-first.first.now c.in_ok-first.rest.now c.in-TextElement.value.now c.in_ok-first.ensures.cases.0 alone is)

pub returns-in_default : goal.returns-in_default
returns-in_default c =
    let view = element_view (Bor (List ℕ)) (λ s. s.now) in
    let is_whole = ap (λ ys. elements_of (map view ys)) c.deref.ensures.value ∙ sym (pattern_view-out (Bor (List ℕ)) (λ s. s.now) c.args.pattern.now) in
    elim c.in_default.branch [
      | in_default-via-in-TextElement+else-is_empty w ↦
          (let others = not-nil c.in_ok-first.rest.now (sym w.is_empty.ensures ∙ w.if-is_empty.false) in
          sym (ap lone_text (sym is_whole) ∙ lone-several view c.deref.result.now c.in_ok-first.first.now c.in_ok-first.rest.now c.in_ok-first.ensures.cases.0 others))
      | in_default-via-in_default w ↦ (let is = ap view w.in_default.is ∙ element_view-Placeable (Bor (List ℕ)) (λ s. s.now) w.in_default.field-0 in
          sym (ap lone_text (sym is_whole) ∙ lone-placeable view c.deref.result.now c.in_ok-first.first.now c.in_ok-first.rest.now _ c.in_ok-first.ensures.cases.0 is))
    ]
