use Rattle.std.proofs.Common.{rules, ◌≡◌, ◌+◌, true, false, ap, subst, ◌∙◌, Bor, List, ℕ}
use Rattle.std.specs.Prelude.{string_bytes}
use Rattle.fluent_ast.proofs.Views.{element_view-Placeable}
use Rattle.fluent_ast.specs.Borrowed.{expression_of}
use Rattle.fluent_ast.specs.View.{element_view, placeable}
use Rattle.fluent_progress.specs.Views.{path_of, state}
use Rattle.fluent_progress.specs.declared.progress.Progress.{Progress}
use Rattle.fluent_resolver.proofs.Elements.{whole-elements}
use Rattle.fluent_calls.specs.GatheringView.{Placed}
use Rattle.fluent_calls.proofs.Gathered.{as-text, at-end, at-placeable, at-start, left_at, next-placeable, next-text, none-left, past-placeable, past-text, with-left, with-now}
use Rattle.fluent_calls.proofs.gathering.gather_pattern.Goals as goal
use Rattle.fluent_calls.proofs.gathering.gather_pattern.Goals.{in-Placeable+in_ok-gather_placeable+else-not-branch, in_default}

pub loop-element-init : goal.loop-element-init
loop-element-init g c = record {
  so_far = at-start _ _ _ _ (whole-elements c.args.pattern.now c.deref-element-items.ensures.value) (ap (λ s. s.budget) c.within-progress.ensures.state) c.new-found.ensures.bytes;
  path = c.within-progress.ensures.path;
}

pub returns-then-not-branch : goal.returns-then-not-branch
returns-then-not-branch g c =
    let view = element_view (Bor (List ℕ)) (λ s. s.now) in
    let e = expression_of c.in-Placeable.expression in
    let is : view c.element-item.result ≡ placeable e = ap view c.in-Placeable.is ∙ element_view-Placeable (Bor (List ℕ)) (λ s. s.now) c.in-Placeable.expression in
    let left = next-placeable c.deref-element-items.result.now c.loop-element.element-index c.element-item.result e c.loop-element-test.true c.element-item.is is in
    let shut : c.in_ok-gather_placeable.field-0 ≡ false = search rules in
    let put = Placed c.args.place.now c.args.calls.now c.args.pattern.now c.in-Placeable.expression c.loop-element.progress c.gather_placeable.new.progress c.loop-element.found c.gather_placeable.new.found in
    let ends = subst put shut c.in_ok-gather_placeable.ensures in
    at-placeable _ _ _ _ ends.calls ends.text (ends.gathers _) (with-left _ _ _ _ left c.loop-element.invariant.so_far)

pub loop-element-preserved : goal.loop-element-preserved
loop-element-preserved g c =
    let view = element_view (Bor (List ℕ)) (λ s. s.now) in
    let items = c.deref-element-items.result.now in
    let i = c.loop-element.element-index in
    let invariant = c.loop-element.invariant in
    elim c.match-element.branch [
      | in-Placeable+in_ok-gather_placeable+else-not-branch w ↦
          (let e = expression_of w.in-Placeable.expression in
          let is : view c.element-item.result ≡ placeable e = ap view w.in-Placeable.is ∙ element_view-Placeable (Bor (List ℕ)) (λ s. s.now) w.in-Placeable.expression in
          let left = next-placeable items i c.element-item.result e c.loop-element-test.true c.element-item.is is in
          let opened : w.in_ok-gather_placeable.field-0 ≡ true = search rules in
          let put = Placed c.args.place.now c.args.calls.now c.args.pattern.now w.in-Placeable.expression c.loop-element.progress w.gather_placeable.new.progress c.loop-element.found w.gather_placeable.new.found in
          let goes = subst put opened w.in_ok-gather_placeable.ensures in
          record {
            so_far = with-now _ _ _ _ (ap (λ (p : Progress). (state p).budget) w.progress-is) (ap string_bytes w.found-is)
                (past-placeable _ _ _ _ goes.calls goes.text (goes.gathers (left_at items (i + 1))) (with-left _ _ _ _ left invariant.so_far));
            path = ap path_of w.progress-is ∙ goes.path;
          })
      | in_default w ↦ record {
        so_far = with-now _ _ _ _ (ap (λ (p : Progress). (state p).budget) w.progress-is) (ap string_bytes w.found-is)
            (as-text c.element-item.result w.in_default.not-Placeable
            (λ s is. past-text _ _ _ _ (with-left _ _ _ _ (next-text items i c.element-item.result s c.loop-element-test.true c.element-item.is is) invariant.so_far)));
        path = ap path_of w.progress-is ∙ invariant.path;
      }
    ]

pub returns : goal.returns
returns g c =
    at-end _ _ _ _ (with-left _ _ _ _ (none-left c.deref-element-items.result.now c.loop-element.element-index (search rules)) c.loop-element.invariant.so_far)
