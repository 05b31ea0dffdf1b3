use Rattle.std.proofs.Common.{◌≡◌, ◌++◌, ◌+◌, ◌∷◌, [], Bor, List, ℕ, ap, drop, map, refl, subst, sym, take, ◌∙◌, false}
use Rattle.fluent_ast.proofs.Views.{element_view-Placeable, element_view-TextElement}
use Rattle.fluent_ast.specs.View.{element_view, elements_of, expression_view, pattern_view, placeable, text}
use Rattle.fluent_meaning.proofs.Equations.{elements-none}
use Rattle.fluent_meaning.proofs.Opening.{is_shut-dirty, placeable-element, text-element, up-to}
use Rattle.fluent_meaning.proofs.Refusals.{some-as}
use Rattle.fluent_meaning.proofs.States.{writes-nothing}
use Rattle.fluent_meaning.proofs.Writing.{writes-as}
use Rattle.fluent_meaning.specs.Refused.{WritesSome}
use Rattle.fluent_meaning.specs.Steps.{is_shut}
use Rattle.fluent_meaning.specs.Substitution as s
use Rattle.fluent_meaning.specs.Told.{State, Writes, budget_of}
use Rattle.fluent_progress.proofs.Telling.{within}
use Rattle.fluent_ast.specs.Borrowed.{elements_of as pattern_of, expression_of}
use Rattle.fluent_meaning.specs.Substitution.{rooted_path}
use Rattle.fluent_progress.specs.Depth.{open_in}
use Rattle.fluent_progress.specs.Nesting.{TakesElements, TakesExpression, in_elements}
use Rattle.fluent_progress.specs.Views.{entered_in, place_view, resolved_in, state}
use Rattle.fluent_progress.specs.declared.progress.Progress.{Progress}
use Rattle.fluent_resolver.proofs.Depth.{never-past, past-at, past-in, this-element}
use Rattle.fluent_resolver.proofs.Places.{entered, same-place}
use Rattle.fluent_resolver.proofs.Pieces.{placeable-refused, stops, text-refused}
use Rattle.fluent_resolver.proofs.Elements.{whole-around}
use Rattle.fluent_resolver.proofs.PatternWalks.{around-walked, element_of, rest-walked, shut-walked, walked}
use Rattle.fluent_resolver.proofs.written.write_pieces.Goals as goal
use Rattle.fluent_resolver.proofs.written.write_pieces.Goals.{in-Placeable+in_ok-write_piece-in-Placeable, in-TextElement+in_ok-write_text-in-TextElement}

pub loop-element-init : goal.loop-element-init
loop-element-init g c =
    record { wrote = writes-nothing _ _ _ (within c.args.progress.now) (elements-none _ _ _ _); path = refl; stack = refl }

pub returns : goal.returns
returns g c =
    let env = resolved_in c.args.place.now in
    let here = place_view c.args.place.now c.args.progress.now in
    let invariant = c.loop-element.invariant in
    let wrote = writes-as _ _ (walked env here (state c.args.progress.now).budget c.args.pattern.now c.deref-element-items.ensures.value c.loop-element.element-index c.loop-element-test.false) invariant.wrote in
    record { wrote = wrote; refused = tt; path = invariant.path; stack = invariant.stack; deep = tt }

pub returns-then-progress : goal.returns-then-progress
returns-then-progress g c =
    let env = resolved_in c.args.place.now in
    let here = place_view c.args.place.now c.args.progress.now in
    let invariant = c.loop-element.invariant in
    let wrote = writes-as _ _ (shut-walked env here (state c.args.progress.now).budget c.args.pattern.now c.deref-element-items.ensures.value c.loop-element.element-index
    (sym (ap (λ (r : State). r.budget) invariant.wrote.state) ∙ ap (λ d. budget_of d c.loop-element.progress.placeables) c.if-progress.true)) invariant.wrote in
    record { wrote = wrote; refused = tt; path = invariant.path; stack = invariant.stack; deep = tt }

pub returns-in_err-write_text-in-TextElement : goal.returns-in_err-write_text-in-TextElement
returns-in_err-write_text-in-TextElement g c =
    let env = resolved_in c.args.place.now in
    let here = place_view c.args.place.now c.args.progress.now in
    let items = c.deref-element-items.result.now in
    let i = c.loop-element.element-index in
    stops c.from_residual.ensures.0 (some-as _ _ (rest-walked env here (state c.args.progress.now).budget c.args.pattern.now c.deref-element-items.ensures.value i) (text-refused env (s.expression_written env) (pattern_of c.args.pattern.now) here (map element_of (take i items)) c.loop-element.invariant.wrote (map element_of (drop i items)) c.in_err-write_text-in-TextElement.ensures.refused)) (never-past c.loop-element.invariant.stack)

pub returns-in_err-write_piece-in-Placeable : goal.returns-in_err-write_piece-in-Placeable
returns-in_err-write_piece-in-Placeable g c =
    let env = resolved_in c.args.place.now in
    let here = place_view c.args.place.now c.args.progress.now in
    let whole = pattern_of c.args.pattern.now in
    let items = c.deref-element-items.result.now in
    let i = c.loop-element.element-index in
    let write = s.expression_written env in
    let e = expression_of c.in-Placeable.expression in
    let is : element_of c.element-item.result ≡ placeable e = ap element_of c.in-Placeable.is ∙ element_view-Placeable (Bor (List ℕ)) (λ s. s.now) c.in-Placeable.expression in
    let now = g.W.TextWrite.text c.loop-element.w in
    let next = g.W.TextWrite.text c.write_piece.new.w in
    let u = state c.loop-element.progress in
    let v = state c.write_piece.new.progress in
    let invariant = c.loop-element.invariant in
    let was = c.in_err-write_piece-in-Placeable.ensures in
    let inside = rooted_path whole here.path in
    let inner : WritesSome now next u v (s.placeable_with env write whole e here) = subst (λ p. WritesSome now next u v (s.placeable_with env write whole e p)) (same-place c.args.place.now invariant.path) was.refused in
    stops c.from_residual-in_err-write_piece-in-Placeable.ensures.0
    (some-as _ _ (around-walked env here (state c.args.progress.now).budget c.args.pattern.now c.deref-element-items.ensures.value i c.element-item.result (placeable e) c.loop-element-test.true c.element-item.is is) (placeable-refused env write whole here (map element_of (take i items)) invariant.wrote e (map element_of (drop (i + 1) items)) inner))
    (past-in (λ m h. in_elements (subst (λ x. TakesElements env.find inside x m) (whole-around c.args.pattern.now c.deref-element-items.ensures.value i c.element-item.result (placeable e) c.loop-element-test.true c.element-item.is is) (this-element env.find inside (map element_of (take i items)) (map element_of (drop (i + 1) items)) e h)))
    (past-at (λ p m. TakesExpression env.find (rooted_path whole p) e m) invariant.stack (ap (map entered) invariant.path) was.deep))

pub loop-element-preserved : goal.loop-element-preserved
loop-element-preserved g c =
    let env = resolved_in c.args.place.now in
    let seen = place_view c.args.place.now in
    let here = seen c.args.progress.now in
    let s0 = state c.args.progress.now in
    let whole = pattern_view (Bor (List ℕ)) (λ s. s.now) c.args.pattern.now in
    let view = element_view (Bor (List ℕ)) (λ s. s.now) in
    let items = c.deref-element-items.result.now in
    let i = c.loop-element.element-index in
    let xs = map view (take i items) in
    let write = s.expression_written env in
    let held = g.W.TextWrite.text c.args.w.now in
    let next = g.W.TextWrite.text c.match-element.w in
    let grown = up-to view items i c.element-item.result c.loop-element-test.true c.element-item.is in
    let invariant = c.loop-element.invariant in
    elim c.match-element.branch [
      | in-TextElement+in_ok-write_text-in-TextElement w ↦
          (let is : view c.element-item.result ≡ text w.in-TextElement.value.now = ap view w.in-TextElement.is ∙ element_view-TextElement (Bor (List ℕ)) (λ s. s.now) w.in-TextElement.value in
          let written : next ≡ g.W.TextWrite.text c.loop-element.w ++ env.transformed w.in-TextElement.value.now = ap g.W.TextWrite.text w.w-is ∙ w.in_ok-write_text-in-TextElement.ensures.wrote in
          let unshut : is_shut (state c.loop-element.progress).budget ≡ false = is_shut-dirty c.loop-element.progress.dirty c.loop-element.progress.placeables ∙ c.if-progress.false in
          let wrote = text-element env write whole here xs w.in-TextElement.value.now invariant.wrote (within c.loop-element.progress) unshut written in
          record {
            wrote = subst (λ p. Writes held next s0 (state p) (λ x. s.elements_written env whole (elements_of (map view (take (i + 1) items))) here x)) (sym w.progress-is)
                (subst (λ es. Writes held next s0 (state c.loop-element.progress) (λ x. s.elements_written env whole es here x)) (ap (λ y. elements_of (xs ++ y ∷ [])) (sym is) ∙ grown) wrote);
            path = ap entered_in w.progress-is ∙ invariant.path;
            stack = ap (λ (p : Progress). open_in p.stack) w.progress-is ∙ invariant.stack;
          })
      | in-Placeable+in_ok-write_piece-in-Placeable w ↦
          (let e = expression_view (Bor (List ℕ)) (λ s. s.now) w.in-Placeable.expression in
          let is : view c.element-item.result ≡ placeable e = ap view w.in-Placeable.is ∙ element_view-Placeable (Bor (List ℕ)) (λ s. s.now) w.in-Placeable.expression in
          let now = g.W.TextWrite.text c.loop-element.w in
          let u = state c.loop-element.progress in
          let same_place : seen c.loop-element.progress ≡ here = same-place c.args.place.now invariant.path in
          let before : Writes now next u (state c.match-element.progress) (s.placeable_with env write whole e here) =
          subst (λ x. Writes now (g.W.TextWrite.text x) u (state c.match-element.progress) (s.placeable_with env write whole e here)) (sym w.w-is)
          (subst (λ p. Writes now (g.W.TextWrite.text w.write_piece.new.w) u (state p) (s.placeable_with env write whole e here)) (sym w.progress-is)
          (subst (λ p. Writes now (g.W.TextWrite.text w.write_piece.new.w) u (state w.write_piece.new.progress) (s.placeable_with env write whole e p)) same_place w.in_ok-write_piece-in-Placeable.ensures.wrote)) in
          let wrote = placeable-element env write whole here xs e invariant.wrote before in
          record {
            wrote = subst (λ es. Writes held next s0 (state c.match-element.progress) (λ x. s.elements_written env whole es here x)) (ap (λ y. elements_of (xs ++ y ∷ [])) (sym is) ∙ grown) wrote;
            path = ap entered_in w.progress-is ∙ w.in_ok-write_piece-in-Placeable.ensures.path ∙ invariant.path;
            stack = ap (λ (p : Progress). open_in p.stack) w.progress-is ∙ w.in_ok-write_piece-in-Placeable.ensures.stack ∙ invariant.stack;
          })
    ]
