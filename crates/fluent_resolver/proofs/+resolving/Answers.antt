use Rattle.std.proofs.Common.{◌≡◌, ◌++◌, ◌+◌, ◌≤◌, suc, ◌∷◌, [], true, false, refl, sym, ap, subst, ◌∙◌, ℕ, List, Bor, Option, Some, rules, map, option_map, take, drop, arith}
use Rattle.std.proofs.lemmas.List.{map-append}
use Rattle.std.proofs.Math.Nat.{le_refl}
use Rattle.std.specs.Prelude.{string_bytes, IfOk, option_copied}
use Rattle.fluent_ast.proofs.Views.{inline_view-TermReference, element_view-Placeable, element_view-TextElement}
use Rattle.fluent_ast.specs.View.{element_view, elements_of, inlines_of, named_view, nameds_of, text, placeable}
use Rattle.fluent_grammar.specs.Escapes.{unescaped}
use Rattle.fluent_grammar.specs.Tree as t
use Rattle.fluent_grammar.specs.Tree.{Elements}
use Rattle.fluent_ids.specs.IdsView.{ids_view}
use Rattle.fluent_meaning.proofs.Equations.{expression-inline, inline-string, inline-number, inline-message, inline-variable, inline-nested, value-string, value-number, value-variable, value-message, value-term, value-nested, arguments-none, positional-none, named-none, elements-none}
use Rattle.fluent_meaning.proofs.Falls.{elements-falls, expression-falls, falls-mapped, maybe_arguments-falls, pattern-falls, positional-falls, value-falls}
use Rattle.fluent_meaning.proofs.Measures.{less-part, less-entered}
use Rattle.fluent_meaning.proofs.Refusals.{tells-like}
use Rattle.fluent_meaning.specs.Steps.{is_shut}
use Rattle.fluent_meaning.proofs.Opening.{finds-left, is_shut-dirty, placeable-element, text-element, unmarked-writes, up-to, weight-at, writes-left}
use Rattle.fluent_meaning.proofs.States.{finds-as, finds-done, finds-mapped, writes-done, writes-nothing}
use Rattle.fluent_meaning.proofs.Weights.{message-weight, target_weight, term-weight, variants-weigh, weight-inline, weight-nested}
use Rattle.fluent_meaning.proofs.Writing.{writes-as}
use Rattle.fluent_meaning.specs.Choice.{chosen}
use Rattle.fluent_meaning.specs.Environment.{value_text}
use Rattle.fluent_meaning.specs.Refused.{TellsSome}
use Rattle.fluent_meaning.specs.Steps.{left, mapped, opens}
use Rattle.fluent_meaning.specs.Substitution as s
use Rattle.fluent_meaning.specs.Substitution.{rooted, rooted_path}
use Rattle.fluent_meaning.specs.Told.{State, Writes, Finds, budget_of}
use Rattle.fluent_meaning.specs.Weight.{arguments_weight, elements_weight, expression_weight, ids_weight, inline_weight, inlines_weight, maybe_arguments_weight, nameds_weight}
use Rattle.fluent_progress.proofs.Telling.{tells-same, within}
use Rattle.fluent_progress.specs.Results.{function_result}
use Rattle.fluent_progress.specs.Depth.{open_in}
use Rattle.fluent_progress.specs.Nesting.{TakesArguments, TakesElements, TakesExpression, TakesInline, TakesMaybe, TakesNameds, TakesPattern, TakesTarget, TakesValue, as_call, as_text, enters, gives_text, in_braces, in_call, in_elements, in_given, in_inline, in_message, in_named, in_own, in_positional, in_selector, in_term, in_variants, call_opens, inside_call, inside_text, text_opens}
use Rattle.fluent_progress.specs.Views.{entered_in, patterns_on, place_view, resolved_in, state, target_view}
use Rattle.fluent_progress.specs.declared.path.Path.{Path}
use Rattle.fluent_progress.specs.declared.progress.Progress.{Progress}
use Rattle.fluent_resolver.proofs.Calls.{of-three}
use Rattle.fluent_resolver.proofs.Parts.{less-element, less-placeable, opens-left, weight-function, weight-select, weight-some, weight-term, found-tells, marked-writes, opened-tells, placeable-refused, referred-tells, referred-writes, rest-refused, tells-as, tells-at, unmarked-tells, written-tells, writes-at}
use Rattle.fluent_value.specs.Args.{all_set}
use Rattle.fluent_value.specs.ArgsView.{args_view}
use Rattle.fluent_value.specs.Value as v
use Rattle.fluent_value.specs.Value.{number_or_text}
use Rattle.fluent_value.specs.View.{value_view}
use Rattle.fluent_resolver.proofs.+resolving.Goals as goal
use Rattle.fluent_resolver.proofs.+resolving.Goals.{pattern::write_pattern-in-TextElement+in_ok-write_text-in-TextElement, pattern::write_pattern-in-Placeable+in_ok-write_placeable-in-Placeable}
use Rattle.fluent_ast.specs.declared.NamedArgument.{out-NamedArgument}
use Rattle.fluent_ast.specs.Borrowed.{arguments_of, elements_of as pattern_of, expression_of, inline_of, maybe_arguments_of, name_of, variants_of}
use Rattle.fluent_resolver.proofs.Places.{entered, entered-path, kept-place, left-path, place-on, same-place}
use Rattle.fluent_resolver.proofs.Shapes.{is-function, is-inline, is-message, is-nested, is-number, is-string, is-variable}
use Rattle.fluent_resolver.proofs.Elements.{whole-around, whole-elements}
use Rattle.fluent_resolver.proofs.Functions.{call-fails, call-fails-tells, call-first, call-tells, call-writes, value-fails, value-finds, value-first}
use Rattle.fluent_resolver.proofs.Terms.{term-first, term-refused, term-tells, term-writes}
use Rattle.fluent_resolver.proofs.Selects.{none-tells, none-writes, select-first, variant-tells, variant-writes}
use Rattle.fluent_progress.specs.Braces.{innermost}
use Rattle.fluent_resolver.proofs.Braces.{innermost-light, innermost-written}
use Rattle.fluent_resolver.proofs.Depth.{chosen-takes, innermost-takes, opened-closed, past-at, past-in, past-opened, past-refused, this-element}
use Rattle.fluent_text.specs.declared.stack.resolving.TheConstants.{CALL, TEXT}
use Rattle.fluent_resolver.proofs.Frames.{framed-finds, framed-tells, less-framed}
use Rattle.fluent_resolver.proofs.ArgumentLists.{arguments-in, given-first, given-found, given-second, nameds_in, positional_in, weight-in}
use Rattle.fluent_resolver.proofs.Endings.{by-leaf, by-part, by-same, by-text, refuses, resolves, runs-out, value-by-call, value-by-leaf, value-by-part, value-is, value-refuses, value-runs-out}
use Rattle.fluent_resolver.proofs.ArgumentWalks.{named-left, named-light, named-more, named-takes, named-tells, positional-left, positional-light, positional-more, positional-takes, positional-tells}
use Rattle.fluent_resolver.proofs.PatternWalks.{around-walked, element_of, rest-walked, shut-walked, walked}

pub pattern::write_pattern-loop-element-init : goal.pattern::write_pattern-loop-element-init
pattern::write_pattern-loop-element-init g n c =
    record { wrote = writes-nothing _ _ _ (within c.args.progress.now) (elements-none _ _ _ _); path = refl; stack = refl }

pub pattern::write_pattern-write_placeable-requires : goal.pattern::write_pattern-write_placeable-requires
pattern::write_pattern-write_placeable-requires g n c κs inside0 =
    let env = resolved_in c.args.place.now in
    let here = place_view c.args.place.now c.args.progress.now in
    let b = (state c.args.progress.now).budget in
    let whole = pattern_of c.args.pattern.now in
    let view = element_view (Bor (List ℕ)) (λ s. s.now) in
    let items = c.deref-element-items.result.now in
    let i = c.loop-element.element-index in
    let xs = map view (take i items) in
    let is_whole : elements_of (map view items) ≡ whole = whole-elements c.args.pattern.now c.deref-element-items.ensures.value in
    let e = expression_of c.in-Placeable.expression in
    let is : view c.element-item.result ≡ placeable e = ap view c.in-Placeable.is ∙ element_view-Placeable (Bor (List ℕ)) (λ s. s.now) c.in-Placeable.expression in
    let u = state c.loop-element.progress in
    let fall : left u.budget ≤ left b = writes-left (λ x. s.elements_written env whole (elements_of xs) here x) c.loop-element.invariant.wrote (elements-falls env (s.expression_written env) (expression-falls env (s.pattern_written env) (pattern-falls env)) whole (elements_of xs) here b) in
    let light : suc (expression_weight e) ≤ elements_weight whole = subst (λ z. suc (expression_weight e) ≤ elements_weight z) is_whole (weight-at view e items i c.element-item.result c.loop-element-test.true (ap view (sym c.element-item.is) ∙ is)) in
    let less = less-element (left u.budget) (left b) (suc (ids_weight (ids_view _ c.args.place.now.ids.now))) (expression_weight e) (elements_weight whole) fall light in
    let measure = c.decreases in let not_dirty = c.if-progress.false in search rules

pub pattern::write_pattern-loop-element-preserved : goal.pattern::write_pattern-loop-element-preserved
pattern::write_pattern-loop-element-preserved g n c =
    let env = resolved_in c.args.place.now in
    let seen = place_view c.args.place.now in
    let here = seen c.args.progress.now in
    let s0 = state c.args.progress.now in
    let whole = pattern_of c.args.pattern.now in
    let view = element_view (Bor (List ℕ)) (λ s. s.now) in
    let items = c.deref-element-items.result.now in
    let i = c.loop-element.element-index in
    let xs = map view (take i items) in
    let write = s.expression_written env in
    let held = string_bytes c.args.out.now in
    let next = string_bytes c.match-element.out in
    let grown = up-to view items i c.element-item.result c.loop-element-test.true c.element-item.is in
    let invariant = c.loop-element.invariant in
    elim c.match-element.branch [
      | pattern::write_pattern-in-TextElement+in_ok-write_text-in-TextElement w ↦
          (let is : view c.element-item.result ≡ text w.in-TextElement.value.now = ap view w.in-TextElement.is ∙ element_view-TextElement (Bor (List ℕ)) (λ s. s.now) w.in-TextElement.value in
          let written : next ≡ string_bytes c.loop-element.out ++ env.transformed w.in-TextElement.value.now = ap string_bytes w.out-is ∙ w.in_ok-write_text-in-TextElement.ensures in
          let unshut : is_shut (state c.loop-element.progress).budget ≡ false = is_shut-dirty c.loop-element.progress.dirty c.loop-element.progress.placeables ∙ c.if-progress.false in
          let wrote = text-element env write whole here xs w.in-TextElement.value.now invariant.wrote (within c.loop-element.progress) unshut written in
          record {
            wrote = subst (λ p. Writes held next s0 (state p) (λ x. s.elements_written env whole (elements_of (map view (take (i + 1) items))) here x)) (sym w.progress-is)
                (subst (λ es. Writes held next s0 (state c.loop-element.progress) (λ x. s.elements_written env whole es here x)) (ap (λ y. elements_of (xs ++ y ∷ [])) (sym is) ∙ grown) wrote);
            path = ap entered_in w.progress-is ∙ invariant.path;
            stack = ap (λ (p : Progress). open_in p.stack) w.progress-is ∙ invariant.stack;
          })
      | pattern::write_pattern-in-Placeable+in_ok-write_placeable-in-Placeable w ↦
          (let e = expression_of w.in-Placeable.expression in
          let is : view c.element-item.result ≡ placeable e = ap view w.in-Placeable.is ∙ element_view-Placeable (Bor (List ℕ)) (λ s. s.now) w.in-Placeable.expression in
          let u = state c.loop-element.progress in
          let same_place : seen c.loop-element.progress ≡ here = same-place c.args.place.now invariant.path in
          let before : Writes (string_bytes c.loop-element.out) next u (state c.match-element.progress) (s.placeable_with env write whole e here) =
          subst (λ x. Writes (string_bytes c.loop-element.out) (string_bytes x) u (state c.match-element.progress) (s.placeable_with env write whole e here)) (sym w.out-is)
          (subst (λ p. Writes (string_bytes c.loop-element.out) (string_bytes w.write_placeable.new.out) u (state p) (s.placeable_with env write whole e here)) (sym w.progress-is)
          (subst (λ p. Writes (string_bytes c.loop-element.out) (string_bytes w.write_placeable.new.out) u (state w.write_placeable.new.progress) (s.placeable_with env write whole e p)) same_place w.in_ok-write_placeable-in-Placeable.ensures.wrote)) in
          let wrote = placeable-element env write whole here xs e invariant.wrote before in
          record {
            wrote = subst (λ es. Writes held next s0 (state c.match-element.progress) (λ x. s.elements_written env whole es here x)) (ap (λ y. elements_of (xs ++ y ∷ [])) (sym is) ∙ grown) wrote;
            path = ap entered_in w.progress-is ∙ w.in_ok-write_placeable-in-Placeable.ensures.path ∙ invariant.path;
            stack = ap (λ (p : Progress). open_in p.stack) w.progress-is ∙ w.in_ok-write_placeable-in-Placeable.ensures.stack ∙ invariant.stack;
          })
    ]

pub pattern::write_pattern-returns : goal.pattern::write_pattern-returns
pattern::write_pattern-returns g n c =
    let env = resolved_in c.args.place.now in
    let here = place_view c.args.place.now c.args.progress.now in
    let invariant = c.loop-element.invariant in
    resolves (writes-as _ _ (walked env here (state c.args.progress.now).budget c.args.pattern.now c.deref-element-items.ensures.value c.loop-element.element-index c.loop-element-test.false) invariant.wrote) invariant.path invariant.stack

pub pattern::write_pattern-returns-then-progress : goal.pattern::write_pattern-returns-then-progress
pattern::write_pattern-returns-then-progress g n c =
    let env = resolved_in c.args.place.now in
    let here = place_view c.args.place.now c.args.progress.now in
    let invariant = c.loop-element.invariant in
    resolves (writes-as _ _ (shut-walked env here (state c.args.progress.now).budget c.args.pattern.now c.deref-element-items.ensures.value c.loop-element.element-index
    (sym (ap (λ (r : State). r.budget) invariant.wrote.state) ∙ ap (λ d. budget_of d c.loop-element.progress.placeables) c.if-progress.true)) invariant.wrote) invariant.path invariant.stack

pub pattern::write_pattern-returns-in_err-write_text-in-TextElement : goal.pattern::write_pattern-returns-in_err-write_text-in-TextElement
pattern::write_pattern-returns-in_err-write_text-in-TextElement g n c =
    let env = resolved_in c.args.place.now in
    let here = place_view c.args.place.now c.args.progress.now in
    let items = c.deref-element-items.result.now in
    let i = c.loop-element.element-index in
    let invariant = c.loop-element.invariant in
    runs-out c.from_residual.ensures.0 (tells-as (rest-walked env here (state c.args.progress.now).budget c.args.pattern.now c.deref-element-items.ensures.value i) (rest-refused env (s.expression_written env) (pattern_of c.args.pattern.now) here (map element_of (take i items)) invariant.wrote (map element_of (drop i items)) refl)) invariant.stack

pub pattern::write_pattern-returns-in_err-write_placeable-in-Placeable : goal.pattern::write_pattern-returns-in_err-write_placeable-in-Placeable
pattern::write_pattern-returns-in_err-write_placeable-in-Placeable g n c =
    let env = resolved_in c.args.place.now in
    let here = place_view c.args.place.now c.args.progress.now in
    let whole = pattern_of c.args.pattern.now in
    let items = c.deref-element-items.result.now in
    let i = c.loop-element.element-index in
    let xs = map element_of (take i items) in
    let ys = map element_of (drop (i + 1) items) in
    let e = expression_of c.in-Placeable.expression in
    let is : element_of c.element-item.result ≡ placeable e = ap element_of c.in-Placeable.is ∙ element_view-Placeable (Bor (List ℕ)) (λ s. s.now) c.in-Placeable.expression in
    let u = state c.loop-element.progress in
    let invariant = c.loop-element.invariant in
    let was = c.in_err-write_placeable-in-Placeable.ensures in
    let inside = rooted_path whole here.path in
    let inner : TellsSome u (state c.write_placeable.new.progress) (s.placeable_with env (s.expression_written env) whole e here u.budget) =
    subst (λ p. TellsSome u (state c.write_placeable.new.progress) (s.placeable_with env (s.expression_written env) whole e p u.budget)) (same-place c.args.place.now invariant.path) was.refused in
    refuses c.from_residual-in_err-write_placeable-in-Placeable.ensures.0 (tells-as (around-walked env here (state c.args.progress.now).budget c.args.pattern.now c.deref-element-items.ensures.value i c.element-item.result (placeable e) c.loop-element-test.true c.element-item.is is) (placeable-refused env (s.expression_written env) whole here xs invariant.wrote e ys inner))
    (past-in (λ m h. in_elements (subst (λ x. TakesElements env.find inside x m) (whole-around c.args.pattern.now c.deref-element-items.ensures.value i c.element-item.result (placeable e) c.loop-element-test.true c.element-item.is is) (this-element env.find inside xs ys e h))) (past-at (λ p m. TakesExpression env.find (rooted_path whole p) e m) invariant.stack (ap (map entered) invariant.path) was.deep))

pub pattern::write_placeable-write_opened-requires : goal.pattern::write_placeable-write_opened-requires
pattern::write_placeable-write_opened-requires g n c κs inside0 =
    let s0 = state c.args.progress.now in
    let b = s0.budget in
    let u = state c.open_placeable.new.self in
    let found : Finds true s0 u opens = subst (λ x. Finds x s0 u opens) c.if-not-branch.false c.in_ok-open_placeable.ensures.opens in
    let opened : suc (left u.budget) ≤ left b = opens-left s0 u found in
    let less = less-placeable (left u.budget) (left b) (suc (ids_weight (ids_view _ c.args.place.now.ids.now))) (expression_weight (expression_of c.args.expression.now)) opened in
    let measure = c.decreases in search rules

pub pattern::write_placeable-returns-in_err-open_placeable : goal.pattern::write_placeable-returns-in_err-open_placeable
pattern::write_placeable-returns-in_err-open_placeable g n c =
    runs-out c.from_residual.ensures.0 (tells-same _ c.in_err-open_placeable.ensures.refused) (ap open_in c.open_placeable.ensures.stack)

pub pattern::write_placeable-returns-in_err-write_front : goal.pattern::write_placeable-returns-in_err-write_front
pattern::write_placeable-returns-in_err-write_front g n c =
    let env = resolved_in c.args.place.now in
    let here = place_view c.args.place.now c.args.progress.now in
    let s0 = state c.args.progress.now in
    let u = state c.open_placeable.new.self in
    let found : Finds true s0 u opens = subst (λ x. Finds x s0 u opens) c.if-not-branch.false c.in_ok-open_placeable.ensures.opens in
    runs-out c.from_residual-in_err-write_front.ensures.0 (opened-tells env (s.expression_written env) (pattern_of c.args.whole.now) (expression_of c.args.expression.now) here s0 u u found (tells-same _ refl)) (ap open_in c.open_placeable.ensures.stack)

pub pattern::write_placeable-returns-in_err-write_opened : goal.pattern::write_placeable-returns-in_err-write_opened
pattern::write_placeable-returns-in_err-write_opened g n c =
    let env = resolved_in c.args.place.now in
    let here = place_view c.args.place.now c.args.progress.now in
    let s0 = state c.args.progress.now in
    let whole = pattern_of c.args.whole.now in
    let e = expression_of c.args.expression.now in
    let write = s.expression_written env in
    let u = state c.open_placeable.new.self in
    let found : Finds true s0 u opens = subst (λ x. Finds x s0 u opens) c.if-not-branch.false c.in_ok-open_placeable.ensures.opens in
    let was = c.in_err-write_opened.ensures in
    refuses c.from_residual-in_err-write_opened.ensures.0 (opened-tells env write whole e here s0 u (state c.write_opened.new.progress) found (tells-at (kept-place c.args.place.now c.open_placeable.ensures.path) (s.unmarked_with env write whole e) was.refused))
    (past-at (λ (p : Path) m. TakesExpression env.find (rooted_path whole (map entered (patterns_on p))) e m) (ap open_in c.open_placeable.ensures.stack) c.open_placeable.ensures.path was.deep)

pub pattern::write_placeable-returns : goal.pattern::write_placeable-returns
pattern::write_placeable-returns g n c =
    let env = resolved_in c.args.place.now in
    let here = place_view c.args.place.now c.args.progress.now in
    let s0 = state c.args.progress.now in
    let whole = pattern_of c.args.whole.now in
    let e = expression_of c.args.expression.now in
    let write = s.expression_written env in
    let u = state c.open_placeable.new.self in
    let v = state c.write_opened.new.progress in
    let found : Finds true s0 u opens = subst (λ x. Finds x s0 u opens) c.if-not-branch.false c.in_ok-open_placeable.ensures.opens in
    let was = c.in_ok-write_opened.ensures in
    let inner = writes-at (kept-place c.args.place.now c.open_placeable.ensures.path) (s.unmarked_with env write whole e) was.wrote in
    by-text c.write_back.ensures (marked-writes env write whole e here s0 u v (string_bytes c.args.out.now) (string_bytes c.write_front.new.out) (string_bytes c.write_opened.new.out) (string_bytes c.write_back.new.out) c.is_isolated-is_isolated.result found c.is_isolated-is_isolated.ensures c.in_ok-write_front.ensures inner)
    (opened-tells env write whole e here s0 u v found (written-tells (s.unmarked_with env write whole e here) inner)) (was.path ∙ ap patterns_on c.open_placeable.ensures.path) (was.stack ∙ ap open_in c.open_placeable.ensures.stack)

pub pattern::write_opened-returns : goal.pattern::write_opened-returns
pattern::write_opened-returns g n c =
    let env = resolved_in c.args.place.now in
    let here = place_view c.args.place.now c.args.progress.now in
    let s0 = state c.args.progress.now in
    let whole = pattern_of c.args.whole.now in
    let e = expression_of c.args.expression.now in
    let write = s.expression_written env in
    let w0 = string_bytes c.args.out.now in
    let w1 = string_bytes c.write_expression.new.out in
    let v = state c.leave_root.new.self in
    let was = c.in_ok-write_expression.ensures in
    let written = writes-at (place-on c.args.place.now c.enter_root-is_root.ensures.path) (write e) was.wrote in
    let inner : Writes w0 w1 s0 v (write e (rooted whole here)) =
    subst (λ r. Writes w0 w1 r v (write e (rooted whole here))) c.enter_root-is_root.ensures.state (record { text = written.text; state = c.leave_root.ensures.state ∙ written.state }) in
    by-text c.close.ensures (unmarked-writes env write whole e here s0 v w0 w1 (string_bytes c.close.new.out) inner) (unmarked-tells env write whole e here s0 v (written-tells (write e (rooted whole here)) inner)) (search rules)
    (ap open_in c.leave_root.ensures.stack ∙ was.stack ∙ ap open_in c.enter_root-is_root.ensures.stack)

pub pattern::write_referred-returns : goal.pattern::write_referred-returns
pattern::write_referred-returns g n c =
    let env = resolved_in c.args.place.now in
    let here = place_view c.args.place.now c.args.progress.now in
    let pat = pattern_of c.args.pattern.now in
    let was = c.in_ok-write_pattern.ensures in
    let on_path = entered-path c.args.pattern c.in_ok-enter_path.ensures.path (ap patterns_on c.count_entry.ensures.path) in
    let wrote = referred-writes env (s.pattern_written env) (inline_of c.args.inline.now) pat here (sym c.is_entered.ensures ∙ c.if-is_entered.false) (c.enter_path.ensures.state ∙ c.count_entry.ensures.counted) (place-on c.args.place.now on_path) c.leave_path.ensures.state was.wrote in
    let put = c.in_ok-enter_path.ensures.path ∙ ap (λ (v : Path). patterns_on v ++ c.args.pattern ∷ []) c.count_entry.ensures.path in
    resolves wrote (c.leave_path.ensures.path ∙ left-path c.args.pattern (was.path ∙ put)) (ap open_in c.leave_path.ensures.stack ∙ was.stack ∙ ap open_in (c.enter_path.ensures.stack ∙ c.count_entry.ensures.stack))

pub pattern::write_referred-returns-in_err-enter_path : goal.pattern::write_referred-returns-in_err-enter_path
pattern::write_referred-returns-in_err-enter_path g n c =
    let env = resolved_in c.args.place.now in
    let here = place_view c.args.place.now c.args.progress.now in
    let first = sym c.is_entered.ensures ∙ c.if-is_entered.false in
    runs-out c.from_residual.ensures.0 (referred-tells env (s.pattern_written env) (inline_of c.args.inline.now) (pattern_of c.args.pattern.now) here first (c.enter_path.ensures.state ∙ c.count_entry.ensures.counted) refl (tells-same _ refl)) (ap open_in (c.enter_path.ensures.stack ∙ c.count_entry.ensures.stack))

pub pattern::write_referred-returns-in_err-write_pattern : goal.pattern::write_referred-returns-in_err-write_pattern
pattern::write_referred-returns-in_err-write_pattern g n c =
    let env = resolved_in c.args.place.now in
    let here = place_view c.args.place.now c.args.progress.now in
    let pat = pattern_of c.args.pattern.now in
    let first = sym c.is_entered.ensures ∙ c.if-is_entered.false in
    let on_path = entered-path c.args.pattern c.in_ok-enter_path.ensures.path (ap patterns_on c.count_entry.ensures.path) in
    let was = c.in_err-write_pattern.ensures in
    refuses c.from_residual-in_err-write_pattern.ensures.0 (referred-tells env (s.pattern_written env) (inline_of c.args.inline.now) pat here first (c.enter_path.ensures.state ∙ c.count_entry.ensures.counted) (place-on c.args.place.now on_path) was.refused)
    (past-in (λ m h. enters first h) (past-at (λ p m. TakesPattern env.find p pat m) (ap open_in (c.enter_path.ensures.stack ∙ c.count_entry.ensures.stack)) on_path was.deep))

pub expression::write_expression-write_inline-requires : goal.expression::write_expression-write_inline-requires
expression::write_expression-write_inline-requires g n c κs inside0 =
    let i = inline_of c.in-Inline.inline in
    let weight : expression_weight (expression_of c.args.expression.now) ≡ suc (inline_weight i) = ap expression_weight (is-inline c.in-Inline.is) ∙ weight-inline i in
    let measure = c.decreases in search rules

pub expression::write_expression-returns-in-Inline : goal.expression::write_expression-returns-in-Inline
expression::write_expression-returns-in-Inline g n c =
    let env = resolved_in c.args.place.now in
    let here = place_view c.args.place.now c.args.progress.now in
    let b = (state c.args.progress.now).budget in
    let is = is-inline c.in-Inline.is in
    let same = sym (ap (λ x. s.expression_written env x here b) is ∙ expression-inline env here b (inline_of c.in-Inline.inline)) in
    by-same same (λ m h. subst (λ x. TakesExpression env.find here.path x m) (sym is) (in_inline h)) c.write_inline.ensures

pub expression::write_select-write_pattern-requires : goal.expression::write_select-write_pattern-requires
expression::write_select-write_pattern-requires g n c κs inside0 =
    let env = resolved_in c.args.place.now in
    let here = (place_view c.args.place.now) c.args.progress.now in
    let b = (state c.args.progress.now).budget in
    let i = inline_of c.args.selector.now in
    let vs = variants_of c.args.variants.now.items in
    let pick : v.Value g.row.C-Meaning.Denot → Option Elements = λ x. chosen env.plurals x vs in
    let u = state c.choose.new.progress in
    let first = c.in_ok-pattern.ensures.found in
    let pat = pattern_of c.in-Some.pattern.now in
    let some : (option_map pattern_of (option_copied c.in_ok-pattern.field-0)) ≡ Some pat = ap (λ q. option_map pattern_of (option_copied q)) c.in-Some.is in
    let q = state c.count_entry.new.self in
    let fall : left u.budget ≤ left b = finds-left (λ x. mapped pick (s.value_found env i here x)) first (falls-mapped pick (value-falls env (s.pattern_written env) (pattern-falls env) i here b)) in
    let same_budget : left q.budget ≡ left u.budget = ap (λ (x : State). left x.budget) c.count_entry.ensures.counted in
    let less = less-part (left q.budget) (suc (left b)) (suc (ids_weight (ids_view _ c.args.place.now.ids.now))) (elements_weight pat) (expression_weight (t.select i vs)) 1 1 (omega (arith, fall, same_budget)) (variants-weigh env.plurals (s.value_found env i here b).value i vs pat (sym first.value ∙ some)) (omega arith) in
    let measure = c.decreases in search rules

pub expression::write_select-returns-in_err-pattern : goal.expression::write_select-returns-in_err-pattern
expression::write_select-returns-in_err-pattern g n c =
    refuses c.from_residual.ensures.0 (select-first (resolved_in c.args.place.now) (place_view c.args.place.now c.args.progress.now) (inline_of c.args.selector.now) (variants_of c.args.variants.now.items) c.in_err-pattern.ensures.refused) (past-in (λ m h. in_selector h) c.in_err-pattern.ensures.deep)

pub expression::write_select-returns-in-None : goal.expression::write_select-returns-in-None
expression::write_select-returns-in-None g n c =
    let env = resolved_in c.args.place.now in
    let here = place_view c.args.place.now c.args.progress.now in
    let i = inline_of c.args.selector.now in
    let vs = variants_of c.args.variants.now.items in
    let chose = c.in_ok-pattern.ensures in
    by-leaf (λ h. none-writes env here i vs chose.found (ap (λ q. option_map pattern_of (option_copied q)) c.in-None.is) (within c.choose.new.progress) h) (λ h. none-tells env here i vs chose.found h)
    c.add_error.ensures.told c.add_error.ensures.refused (ap patterns_on c.add_error.ensures.path ∙ chose.path) (ap open_in c.add_error.ensures.stack ∙ chose.stack)

pub expression::write_select-returns-in-Some : goal.expression::write_select-returns-in-Some
expression::write_select-returns-in-Some g n c =
    let env = resolved_in c.args.place.now in
    let here = place_view c.args.place.now c.args.progress.now in
    let i = inline_of c.args.selector.now in
    let vs = variants_of c.args.variants.now.items in
    let pat = pattern_of c.in-Some.pattern.now in
    let chose = c.in_ok-pattern.ensures in
    let counted = c.count_entry.ensures in
    let some : option_map pattern_of (option_copied c.in_ok-pattern.field-0) ≡ Some pat = ap (λ q. option_map pattern_of (option_copied q)) c.in-Some.is in
    let path = ap patterns_on counted.path ∙ chose.path in
    let at_place = same-place c.args.place.now path in
    by-part (λ h. variant-writes env here i vs chose.found some counted.counted at_place h) (λ h. variant-tells env here i vs chose.found some counted.counted at_place h) path (ap open_in counted.stack ∙ chose.stack)
    (λ m h. in_variants (chosen-takes env.find here.path pat (subst (λ p. TakesPattern env.find p pat m) (ap (map entered) path) h) env.plurals (s.value_found env i here (state c.args.progress.now).budget).value vs (sym chose.found.value ∙ some)))
    c.write_pattern.ensures

pub expression::choose-value_of-requires : goal.expression::choose-value_of-requires
expression::choose-value_of-requires g n c κs inside0 =
    let b = (state c.args.progress.now).budget in
    let i = inline_of c.args.selector.now in
    let vs = variants_of c.args.variants.now.items in
    let less = less-part (suc (left b)) (suc (left b)) (suc (ids_weight (ids_view _ c.args.place.now.ids.now))) (inline_weight i) (expression_weight (t.select i vs)) 3 0 (le_refl (suc (left b))) (weight-select i vs) (omega arith) in
    let measure = c.decreases in search rules

pub expression::write_inline-write_expression-requires : goal.expression::write_inline-write_expression-requires
expression::write_inline-write_expression-requires g n c κs inside0 =
    let b = (state c.args.progress.now).budget in
    let e = expression_of c.in-Placeable.expression.value in
    let i = inline_of c.args.inline.now in
    let weight : inline_weight i ≡ suc (expression_weight e) = ap inline_weight (is-nested c.in-Placeable.is) ∙ weight-nested e in
    let inner : expression_of c.innermost.result.now ≡ innermost e = rw c.deref.ensures at c.innermost.ensures in
    let light : expression_weight (expression_of c.innermost.result.now) ≤ expression_weight e = subst (λ x. expression_weight x ≤ expression_weight e) (sym inner) (innermost-light e) in
    let less = less-part (suc (left b)) (suc (left b)) (suc (ids_weight (ids_view _ c.args.place.now.ids.now))) (expression_weight (expression_of c.innermost.result.now)) (inline_weight i) 2 1 (le_refl (suc (left b))) (omega (arith, weight, light)) (omega arith) in
    let measure = c.decreases in search rules

pub expression::write_inline-write_target-requires : goal.expression::write_inline-write_target-requires
expression::write_inline-write_target-requires g n c κs inside0 =
    let env = resolved_in c.args.place.now in
    let b = (state c.args.progress.now).budget in
    let id = name_of c.in-MessageReference.id in
    let attr = option_map name_of c.in-MessageReference.attribute in
    let target = target_view c.in_ok-target-in-MessageReference.target in
    let meant : target ≡ s.message_target id attr (env.find id) = c.in_ok-target-in-MessageReference.ensures in
    let light : target_weight target ≤ ids_weight (ids_view _ c.args.place.now.ids.now) = subst (λ x. target_weight x ≤ ids_weight (ids_view _ c.args.place.now.ids.now)) (sym meant) (message-weight (ids_view _ c.args.place.now.ids.now) id attr) in
    let measure = c.decreases in
    let less = less-entered (left b) (left b) (ids_weight (ids_view _ c.args.place.now.ids.now)) (target_weight target) (inline_weight (inline_of c.args.inline.now)) 2 1 (le_refl (left b)) light (omega arith) in search rules

pub expression::write_inline-returns-in-StringLiteral : goal.expression::write_inline-returns-in-StringLiteral
expression::write_inline-returns-in-StringLiteral g n c =
    let env = resolved_in c.args.place.now in
    let here = place_view c.args.place.now c.args.progress.now in
    let s0 = state c.args.progress.now in
    let same = ap (λ x. s.inline_written env x here s0.budget) (is-string c.in-StringLiteral.is) ∙ inline-string env here s0.budget c.in-StringLiteral.value.now in
    by-text c.write_literal.ensures (writes-done (string_bytes c.args.out.now) (string_bytes c.write_literal.new.out) (unescaped c.in-StringLiteral.value.now) s0 (s.inline_written env (inline_of c.args.inline.now) here) (within c.args.progress.now) same) (tells-same _ refl) refl refl

pub expression::write_inline-returns-in-NumberLiteral : goal.expression::write_inline-returns-in-NumberLiteral
expression::write_inline-returns-in-NumberLiteral g n c =
    let env = resolved_in c.args.place.now in
    let here = place_view c.args.place.now c.args.progress.now in
    let s0 = state c.args.progress.now in
    let same = ap (λ x. s.inline_written env x here s0.budget) (is-number c.in-NumberLiteral.is) ∙ inline-number env here s0.budget c.in-NumberLiteral.value.now in
    by-text c.write_number.ensures (writes-done (string_bytes c.args.out.now) (string_bytes c.write_number.new.out) (value_text env (number_or_text c.in-NumberLiteral.value.now)) s0 (s.inline_written env (inline_of c.args.inline.now) here) (within c.args.progress.now) same) (tells-same _ refl) refl refl

pub expression::write_inline-returns-in-VariableReference : goal.expression::write_inline-returns-in-VariableReference
expression::write_inline-returns-in-VariableReference g n c =
    let env = resolved_in c.args.place.now in
    let here = place_view c.args.place.now c.args.progress.now in
    let b = (state c.args.progress.now).budget in
    let same = sym (ap (λ x. s.inline_written env x here b) (is-variable c.in-VariableReference.is) ∙ inline-variable env here b (name_of c.in-VariableReference.id)) in
    by-leaf (writes-as _ _ same) (tells-as same) c.write_variable.ensures.wrote c.write_variable.ensures.refused (ap patterns_on c.write_variable.ensures.path) (ap open_in c.write_variable.ensures.stack)

pub expression::write_inline-returns-in-Placeable : goal.expression::write_inline-returns-in-Placeable
expression::write_inline-returns-in-Placeable g n c =
    let env = resolved_in c.args.place.now in
    let here = place_view c.args.place.now c.args.progress.now in
    let b = (state c.args.progress.now).budget in
    let e = expression_of c.in-Placeable.expression.value in
    let is = is-nested c.in-Placeable.is in
    let inner : expression_of c.innermost.result.now ≡ innermost e = rw c.deref.ensures at c.innermost.ensures in
    let same = sym (ap (λ x. s.inline_written env x here b) is ∙ inline-nested env here b e ∙ sym (innermost-written env here b e) ∙ ap (λ x. s.expression_written env x here b) (sym inner)) in
    by-same same (λ m h. subst (λ x. TakesInline env.find here.path x m) (sym is) (in_braces (innermost-takes env.find here.path e (subst (λ x. TakesExpression env.find here.path x m) inner h)))) c.write_expression.ensures

pub expression::write_inline-returns-in_ok-target-in-MessageReference : goal.expression::write_inline-returns-in_ok-target-in-MessageReference
expression::write_inline-returns-in_ok-target-in-MessageReference g n c =
    let env = resolved_in c.args.place.now in
    let here = place_view c.args.place.now c.args.progress.now in
    let b = (state c.args.progress.now).budget in
    let id = name_of c.in-MessageReference.id in
    let attr = option_map name_of c.in-MessageReference.attribute in
    let is = is-message c.in-MessageReference.is in
    let meant : (target_view c.in_ok-target-in-MessageReference.target) ≡ s.message_target id attr (env.find id) = c.in_ok-target-in-MessageReference.ensures in
    let same = ap (λ x. s.target_written env (s.pattern_written env) (inline_of c.args.inline.now) x here b) meant ∙ ap (λ x. s.target_written env (s.pattern_written env) x (s.message_target id attr (env.find id)) here b) is ∙ sym (ap (λ x. s.inline_written env x here b) is ∙ inline-message env here b id attr) in
    by-same same (λ m h. subst (λ x. TakesInline env.find here.path x m) (sym is) (in_message (subst (λ x. TakesTarget env.find here.path x m) meant h))) c.write_target.ensures

pub expression::write_inline-returns-in_err-target-in-MessageReference : goal.expression::write_inline-returns-in_err-target-in-MessageReference
expression::write_inline-returns-in_err-target-in-MessageReference g n c =
    runs-out c.from_residual.ensures.0 (tells-same _ refl) refl

pub expression::write_call-call_result-requires : goal.expression::write_call-call_result-requires
expression::write_call-call_result-requires g n c κs inside0 =
    let b = (state c.args.progress.now).budget in
    let id = name_of c.args.id.now in
    let given = arguments_of c.args.arguments.now in
    let i = inline_of c.args.inline.now in
    let is : i ≡ t.function_reference id given = c.requires in
    let weight : inline_weight i ≡ suc (arguments_weight given) = ap inline_weight is ∙ weight-function id given in
    let less = less-part (suc (left b)) (suc (left b)) (suc (ids_weight (ids_view _ c.args.place.now.ids.now))) (arguments_weight given) (inline_weight i) 1 0 (le_refl (suc (left b))) (omega (arith, weight)) (omega arith) in
    let measure = c.decreases in search rules

pub expression::write_call-returns-in_err-result : goal.expression::write_call-returns-in_err-result
expression::write_call-returns-in_err-result g n c =
    let env = resolved_in c.args.place.now in
    let here = place_view c.args.place.now c.args.progress.now in
    refuses c.from_residual.ensures.0 (call-first env here c.requires c.in_err-result.ensures.refused) (past-in (λ m h. subst (λ x. TakesInline env.find here.path x m) (sym c.requires) (in_call h)) c.in_err-result.ensures.deep)

pub expression::write_call-returns-in-Some : goal.expression::write_call-returns-in-Some
expression::write_call-returns-in-Some g n c =
    let env = resolved_in c.args.place.now in
    let here = place_view c.args.place.now c.args.progress.now in
    let called = c.in_ok-result.ensures in
    by-text c.write_result.ensures (λ h. call-writes env here c.requires called.found (ap (option_map (value_view g.C.FluentType.meaning)) c.in-Some.is) (within c.call_result.new.progress) h) (call-tells env here c.requires called.found) called.path called.stack

pub expression::write_call-returns-in_err-id-in-None : goal.expression::write_call-returns-in_err-id-in-None
expression::write_call-returns-in_err-id-in-None g n c =
    runs-out c.from_residual-in_err-id-in-None.ensures.0 (call-tells (resolved_in c.args.place.now) (place_view c.args.place.now c.args.progress.now) c.requires c.in_ok-result.ensures.found) c.in_ok-result.ensures.stack

pub expression::write_call-returns-in_ok-id-in-None : goal.expression::write_call-returns-in_ok-id-in-None
expression::write_call-returns-in_ok-id-in-None g n c =
    let env = resolved_in c.args.place.now in
    let here = place_view c.args.place.now c.args.progress.now in
    let called = c.in_ok-result.ensures in
    let none = ap (option_map (value_view g.C.FluentType.meaning)) c.in-None.is in
    by-leaf (λ h. call-fails env here c.requires called.found none c.in_ok-id-in-None.ensures.ok h) (λ h. call-fails-tells env here c.requires called.found none c.in_ok-id-in-None.ensures.ok h)
    c.fall_back.ensures.wrote c.fall_back.ensures.refused (ap patterns_on c.fall_back.ensures.path ∙ called.path) (ap open_in c.fall_back.ensures.stack ∙ called.stack)

pub expression::write_term-own_arguments-requires : goal.expression::write_term-own_arguments-requires
expression::write_term-own_arguments-requires g n c κs inside0 =
    let b = (state c.args.progress.now).budget in
    let id = name_of c.args.id.now in
    let attr = option_map name_of c.args.attribute.now in
    let given = maybe_arguments_of c.args.arguments.now in
    let i = inline_of c.args.inline.now in
    let is : i ≡ t.term_reference id attr given = c.requires in
    let weight : inline_weight i ≡ suc (maybe_arguments_weight given) = ap inline_weight is ∙ weight-term id attr given in
    let less = less-part (suc (left b)) (suc (left b)) (suc (ids_weight (ids_view _ c.args.place.now.ids.now))) (maybe_arguments_weight given) (inline_weight i) 1 0 (le_refl (suc (left b))) (omega (arith, weight)) (omega arith) in
    let measure = c.decreases in search rules

pub expression::write_term-write_target-requires : goal.expression::write_term-write_target-requires
expression::write_term-write_target-requires g n c κs inside0 =
    let env = resolved_in c.args.place.now in
    let here = (place_view c.args.place.now) c.args.progress.now in
    let s0 = state c.args.progress.now in
    let b = s0.budget in
    let id = name_of c.args.id.now in
    let attr = option_map name_of c.args.attribute.now in
    let given = maybe_arguments_of c.args.arguments.now in
    let u = state c.own_arguments.new.progress in
    let found : Finds (args_view g.C.FluentType.meaning c.in_ok-own.own) s0 u (λ x. mapped (λ called. called.named) (s.arguments_found env given here x)) = c.in_ok-own.ensures.found in
    let target = target_view c.in_ok-target.target in
    let meant : target ≡ s.term_target id attr (env.find id) = c.in_ok-target.ensures in
    let light : target_weight target ≤ ids_weight (ids_view _ c.args.place.now.ids.now) = subst (λ x. target_weight x ≤ ids_weight (ids_view _ c.args.place.now.ids.now)) (sym meant) (term-weight (ids_view _ c.args.place.now.ids.now) id attr) in
    let fall : left u.budget ≤ left b = finds-left (λ x. mapped (λ called. called.named) (s.arguments_found env given here x)) found (falls-mapped (λ called. called.named) (maybe_arguments-falls env (s.pattern_written env) (pattern-falls env) given here b)) in
    let less = less-entered (left u.budget) (left b) (ids_weight (ids_view _ c.args.place.now.ids.now)) (target_weight target) (inline_weight (inline_of c.args.inline.now)) 3 0 fall light (omega arith) in
    let measure = c.decreases in search rules

pub expression::write_term-returns-in_err-own : goal.expression::write_term-returns-in_err-own
expression::write_term-returns-in_err-own g n c =
    let env = resolved_in c.args.place.now in
    let here = place_view c.args.place.now c.args.progress.now in
    refuses c.from_residual.ensures.0 (term-first env here c.requires c.in_err-own.ensures.refused) (past-in (λ m h. subst (λ x. TakesInline env.find here.path x m) (sym c.requires) (in_own h)) c.in_err-own.ensures.deep)

pub expression::write_term-returns-in_err-target : goal.expression::write_term-returns-in_err-target
expression::write_term-returns-in_err-target g n c =
    runs-out c.from_residual-in_err-target.ensures.0 (term-tells (resolved_in c.args.place.now) (place_view c.args.place.now c.args.progress.now) c.requires c.in_ok-own.ensures.found) c.in_ok-own.ensures.stack

pub expression::write_term-returns : goal.expression::write_term-returns
expression::write_term-returns g n c =
    let env = resolved_in c.args.place.now in
    let here = place_view c.args.place.now c.args.progress.now in
    let own = c.in_ok-own.ensures in
    let target = target_view c.in_ok-target.target in
    let meant : target ≡ s.term_target (name_of c.args.id.now) (option_map name_of c.args.attribute.now) (env.find (name_of c.args.id.now)) = c.in_ok-target.ensures in
    let inside = ap (s.in_term (args_view g.C.FluentType.meaning c.in_ok-own.own)) (same-place c.args.place.now own.path) in
    by-part (λ h. term-writes env here c.requires own.found meant inside h) (λ h. term-refused env here c.requires own.found meant inside h) own.path own.stack
    (λ m h. subst (λ x. TakesInline env.find here.path x m) (sym c.requires) (in_term (subst (λ x. TakesTarget env.find here.path x m) meant (subst (λ p. TakesTarget env.find p target m) (ap (map entered) own.path) h))))
    c.write_target.ensures

pub value::value_of-nested_call-requires : goal.value::value_of-nested_call-requires
value::value_of-nested_call-requires g n c κs inside0 =
    let b = (state c.args.progress.now).budget in
    let given = arguments_of c.in-FunctionReference.arguments in
    let weight : inline_weight (inline_of c.args.inline.now) ≡ suc (arguments_weight given) = ap inline_weight (is-function c.in-FunctionReference.is) ∙ weight-function (name_of c.in-FunctionReference.id) given in
    let less = less-part (suc (left b)) (suc (left b)) (suc (ids_weight (ids_view _ c.args.place.now.ids.now))) (arguments_weight given) (inline_weight (inline_of c.args.inline.now)) 2 3 (le_refl (suc (left b))) (omega (arith, weight)) (omega arith) in
    let measure = c.decreases in search rules

pub value::value_of-returns-in-StringLiteral : goal.value::value_of-returns-in-StringLiteral
value::value_of-returns-in-StringLiteral g n c =
    let env = resolved_in c.args.place.now in
    let here = place_view c.args.place.now c.args.progress.now in
    let s0 = state c.args.progress.now in
    let same = ap (λ k. s.value_found env k here s0.budget) (is-string c.in-StringLiteral.is) ∙ value-string env here s0.budget c.in-StringLiteral.value.now in
    value-by-call c.literal_value.ensures (λ x h. finds-done (value_view g.C.FluentType.meaning x) (v.text (unescaped c.in-StringLiteral.value.now)) s0 (s.value_found env (inline_of c.args.inline.now) here) (within c.args.progress.now) same h) (tells-same _ refl) refl refl

pub value::value_of-returns-in-NumberLiteral : goal.value::value_of-returns-in-NumberLiteral
value::value_of-returns-in-NumberLiteral g n c =
    let env = resolved_in c.args.place.now in
    let here = place_view c.args.place.now c.args.progress.now in
    let s0 = state c.args.progress.now in
    let same = ap (λ k. s.value_found env k here s0.budget) (is-number c.in-NumberLiteral.is) ∙ value-number env here s0.budget c.in-NumberLiteral.value.now in
    value-is (finds-done _ (number_or_text c.in-NumberLiteral.value.now) s0 (s.value_found env (inline_of c.args.inline.now) here) (within c.args.progress.now) same c.try_number.ensures) refl refl

pub value::value_of-returns-in-VariableReference : goal.value::value_of-returns-in-VariableReference
value::value_of-returns-in-VariableReference g n c =
    let env = resolved_in c.args.place.now in
    let here = place_view c.args.place.now c.args.progress.now in
    let b = (state c.args.progress.now).budget in
    let same = sym (ap (λ k. s.value_found env k here b) (is-variable c.in-VariableReference.is) ∙ value-variable env here b (name_of c.in-VariableReference.id)) in
    value-by-leaf (λ x h. finds-as _ _ same h) (tells-as same) c.variable_value.ensures.found c.variable_value.ensures.refused (ap patterns_on c.variable_value.ensures.path) (ap open_in c.variable_value.ensures.stack)

pub value::value_of-returns-in_err-result-in-FunctionReference : goal.value::value_of-returns-in_err-result-in-FunctionReference
value::value_of-returns-in_err-result-in-FunctionReference g n c =
    let env = resolved_in c.args.place.now in
    let here = place_view c.args.place.now c.args.progress.now in
    let is = is-function c.in-FunctionReference.is in
    let was = c.in_err-result-in-FunctionReference.ensures in
    value-refuses c.from_residual.ensures.0 (value-first env here is was.refused) (past-in (λ m h. subst (λ x. TakesValue env.find here.path x m) (sym is) (as_call h)) was.deep)

pub value::value_of-returns-in-Some : goal.value::value_of-returns-in-Some
value::value_of-returns-in-Some g n c =
    let called = c.in_ok-result-in-FunctionReference.ensures in
    value-is (value-finds (resolved_in c.args.place.now) (place_view c.args.place.now c.args.progress.now) (is-function c.in-FunctionReference.is) called.found (ap (option_map (value_view g.C.FluentType.meaning)) c.in-Some.is) (within c.nested_call.new.progress)) called.path called.stack

pub value::value_of-returns-in-None : goal.value::value_of-returns-in-None
value::value_of-returns-in-None g n c =
    let called = c.in_ok-result-in-FunctionReference.ensures in
    value-is (value-fails (resolved_in c.args.place.now) (place_view c.args.place.now c.args.progress.now) (is-function c.in-FunctionReference.is) called.found (ap (option_map (value_view g.C.FluentType.meaning)) c.in-None.is) (within c.nested_call.new.progress)) called.path called.stack

pub value::value_of-returns-in-MessageReference : goal.value::value_of-returns-in-MessageReference
value::value_of-returns-in-MessageReference g n c =
    let env = resolved_in c.args.place.now in
    let here = place_view c.args.place.now c.args.progress.now in
    let b = (state c.args.progress.now).budget in
    let i = inline_of c.args.inline.now in
    let same : s.value_found env i here b ≡ mapped v.text (s.inline_written env i here b) = of-three
    (λ p. let is = is-message p.2 in ap (λ k. s.value_found env k here b) is ∙ value-message env here b (name_of p.0) (option_map name_of p.1) ∙ ap (λ k. mapped v.text (s.inline_written env k here b)) (sym is))
    (λ p. let is = ap inline_of p.3 ∙ inline_view-TermReference (Bor (List ℕ)) (λ s. s.now) p.0 p.1 p.2 in ap (λ k. s.value_found env k here b) is ∙ value-term env here b (name_of p.0) (option_map name_of p.1) (maybe_arguments_of p.2) ∙ ap (λ k. mapped v.text (s.inline_written env k here b)) (sym is))
    (λ p. let is = is-nested p.1 in ap (λ k. s.value_found env k here b) is ∙ value-nested env here b (expression_of p.0.value) ∙ ap (λ k. mapped v.text (s.inline_written env k here b)) (sym is))
    c.in-MessageReference.is in
    let gives : gives_text i ≡ true = of-three
    (λ p. ap gives_text (is-message p.2))
    (λ p. ap gives_text (ap inline_of p.3 ∙ inline_view-TermReference (Bor (List ℕ)) (λ s. s.now) p.0 p.1 p.2))
    (λ p. ap gives_text (is-nested p.1))
    c.in-MessageReference.is in
    value-by-part (λ x h. finds-as _ _ (sym same) h) (λ h. tells-as (sym same) (tells-like (mapped v.text (s.inline_written env i here b)) refl h)) refl refl (λ m h. as_text gives h) c.text_value.ensures

pub value::text_value-write_inline-requires : goal.value::text_value-write_inline-requires
value::text_value-write_inline-requires g n c κs inside0 =
    let b = (state c.args.progress.now).budget in
    let u = state c.open_frames.new.self in
    let same : left u.budget ≡ left b = ap (λ (x : State). left x.budget) c.open_frames.ensures.state in
    let less = less-framed (left u.budget) (left b) (suc (ids_weight (ids_view _ c.args.place.now.ids.now))) (inline_weight (inline_of c.args.inline.now)) same in
    let measure = c.decreases in search rules

pub value::text_value-returns-in_err-open_frames : goal.value::text_value-returns-in_err-open_frames
value::text_value-returns-in_err-open_frames g n c =
    value-refuses c.from_residual.ensures.0 (tells-same _ c.open_frames.ensures.state) (past-refused TEXT text_opens c.in_err-open_frames.ensures.past)

pub value::text_value-returns-in_err-write_inline : goal.value::text_value-returns-in_err-write_inline
value::text_value-returns-in_err-write_inline g n c =
    let env = resolved_in c.args.place.now in
    let i = inline_of c.args.inline.now in
    let opened = c.open_frames.ensures in
    let was = c.in_err-write_inline.ensures in
    value-refuses c.from_residual-in_err-write_inline.ensures.0 (tells-like _ refl (framed-tells c.args.place.now c.args.progress.now c.open_frames.new.self opened.state opened.path (λ p b. s.inline_written env i p b) was.refused))
    (past-opened TEXT c.in_ok-open_frames.ensures.opened (λ m h. inside_text h) (past-at (λ (p : Path) m. TakesInline env.find (map entered (patterns_on p)) i m) refl opened.path was.deep))

pub arguments::call_result-positional_values-requires : goal.arguments::call_result-positional_values-requires
arguments::call_result-positional_values-requires g n c κs inside0 =
    let b = (state c.args.progress.now).budget in
    let a = c.args.arguments.now in
    let weight = weight-in a in
    let less = less-part (suc (left b)) (suc (left b)) (suc (ids_weight (ids_view _ c.args.place.now.ids.now))) (inlines_weight (positional_in a)) (arguments_weight (arguments_of a)) 3 1 (le_refl (suc (left b))) (omega (arith, weight)) (omega arith) in
    let measure = c.decreases in search rules

pub arguments::call_result-named_values-requires : goal.arguments::call_result-named_values-requires
arguments::call_result-named_values-requires g n c κs inside0 =
    let env = resolved_in c.args.place.now in
    let here = place_view c.args.place.now c.args.progress.now in
    let b = (state c.args.progress.now).budget in
    let a = c.args.arguments.now in
    let ps = positional_in a in
    let weight = weight-in a in
    let p1 = state c.positional_values.new.progress in
    let fall : left p1.budget ≤ left b = finds-left (λ x. s.positional_found env ps here x) c.in_ok-positional.ensures.found (positional-falls env (s.pattern_written env) (pattern-falls env) ps here b) in
    let less = less-part (suc (left p1.budget)) (suc (left b)) (suc (ids_weight (ids_view _ c.args.place.now.ids.now))) (nameds_weight (nameds_in a)) (arguments_weight (arguments_of a)) 3 1 (omega (arith, fall)) (omega (arith, weight)) (omega arith) in
    let measure = c.decreases in search rules

pub arguments::call_result-returns : goal.arguments::call_result-returns
arguments::call_result-returns g n c =
    let env = resolved_in c.args.place.now in
    let here = place_view c.args.place.now c.args.progress.now in
    let id = name_of c.args.id.now in
    let gives : s.Called g.row.C-Meaning.Denot → Option (v.Value g.row.C-Meaning.Denot) = λ called. function_result env (env.find id) called.positional called.named in
    let given = s.arguments_found env (t.with_arguments (arguments_of c.args.arguments.now)) here in
    let first = c.in_ok-positional.ensures in
    let second = c.in_ok-named.ensures in
    let all = given-found env here c.args.arguments.now first.found (same-place c.args.place.now first.path) second.found in
    let result = finds-mapped given all gives in
    let lent : c.deref.result.now ≡ c.in_ok-positional.positional.items = search rules in
    value-by-call (subst (λ z. IfOk c.call.result (λ x. option_map (value_view g.C.FluentType.meaning) x ≡ function_result env (env.find id) (map (value_view g.C.FluentType.meaning) z) (args_view g.C.FluentType.meaning c.in_ok-named.named))) lent c.call.ensures)
    (λ x h. record { value = h ∙ result.value; state = result.state }) (found-tells (λ x. mapped gives (given x)) result) (second.path ∙ first.path) (second.stack ∙ first.stack)

pub arguments::call_result-returns-in_err-positional : goal.arguments::call_result-returns-in_err-positional
arguments::call_result-returns-in_err-positional g n c =
    let env = resolved_in c.args.place.now in
    let here = place_view c.args.place.now c.args.progress.now in
    let a = c.args.arguments.now in
    value-refuses c.from_residual.ensures.0 (tells-like _ refl (given-first env here a c.in_err-positional.ensures.refused)) (past-in (λ m h. subst (λ x. TakesArguments env.find here.path x m) (sym (arguments-in a)) (in_positional h)) c.in_err-positional.ensures.deep)

pub arguments::call_result-returns-in_err-named : goal.arguments::call_result-returns-in_err-named
arguments::call_result-returns-in_err-named g n c =
    let env = resolved_in c.args.place.now in
    let here = place_view c.args.place.now c.args.progress.now in
    let a = c.args.arguments.now in
    let first = c.in_ok-positional.ensures in
    value-refuses c.from_residual-in_err-named.ensures.0 (tells-like _ refl (given-second env here a first.found (same-place c.args.place.now first.path) c.in_err-named.ensures.refused))
    (past-in (λ m h. subst (λ x. TakesArguments env.find here.path x m) (sym (arguments-in a)) (in_named h)) (past-at (λ p m. TakesNameds env.find p (nameds_in a) m) first.stack (ap (map entered) first.path) c.in_err-named.ensures.deep))

pub arguments::nested_call-call_result-requires : goal.arguments::nested_call-call_result-requires
arguments::nested_call-call_result-requires g n c κs inside0 =
    let b = (state c.args.progress.now).budget in
    let u = state c.open_frames.new.self in
    let same : left u.budget ≡ left b = ap (λ (x : State). left x.budget) c.open_frames.ensures.state in
    let less = less-framed (left u.budget) (left b) (suc (ids_weight (ids_view _ c.args.place.now.ids.now))) (arguments_weight (arguments_of c.args.arguments.now)) same in
    let measure = c.decreases in search rules

pub arguments::nested_call-returns-in_err-open_frames : goal.arguments::nested_call-returns-in_err-open_frames
arguments::nested_call-returns-in_err-open_frames g n c =
    value-refuses c.from_residual.ensures.0 (tells-same _ c.open_frames.ensures.state) (past-refused CALL call_opens c.in_err-open_frames.ensures.past)

pub arguments::nested_call-returns-in_err-result : goal.arguments::nested_call-returns-in_err-result
arguments::nested_call-returns-in_err-result g n c =
    let env = resolved_in c.args.place.now in
    let gives : s.Called g.row.C-Meaning.Denot → Option (v.Value g.row.C-Meaning.Denot) = λ called. function_result env (env.find (name_of c.args.id.now)) called.positional called.named in
    let given = arguments_of c.args.arguments.now in
    let opened = c.open_frames.ensures in
    let was = c.in_err-result.ensures in
    value-refuses c.from_residual-in_err-result.ensures.0 (framed-tells c.args.place.now c.args.progress.now c.open_frames.new.self opened.state opened.path (λ p b. mapped gives (s.arguments_found env (t.with_arguments given) p b)) was.refused)
    (past-opened CALL c.in_ok-open_frames.ensures.opened (λ m h. inside_call h) (past-at (λ (p : Path) m. TakesArguments env.find (map entered (patterns_on p)) given m) refl opened.path was.deep))

pub arguments::nested_call-returns : goal.arguments::nested_call-returns
arguments::nested_call-returns g n c =
    let env = resolved_in c.args.place.now in
    let gives : s.Called g.row.C-Meaning.Denot → Option (v.Value g.row.C-Meaning.Denot) = λ called. function_result env (env.find (name_of c.args.id.now)) called.positional called.named in
    let opened = c.open_frames.ensures in
    let was = c.in_ok-result.ensures in
    value-is (framed-finds c.args.place.now c.args.progress.now c.open_frames.new.self opened.state opened.path (λ p b. mapped gives (s.arguments_found env (t.with_arguments (arguments_of c.args.arguments.now)) p b)) c.close_frames.ensures.state was.found)
    (ap patterns_on c.close_frames.ensures.path ∙ was.path ∙ ap patterns_on opened.path) (opened-closed CALL c.in_ok-open_frames.ensures.opened was.stack c.close_frames.ensures.closed)

pub arguments::own_arguments-positional_values-requires : goal.arguments::own_arguments-positional_values-requires
arguments::own_arguments-positional_values-requires g n c κs inside0 =
    let b = (state c.args.progress.now).budget in
    let a = c.in-Some.arguments in
    let given = maybe_arguments_of c.args.arguments.now in
    let weight : maybe_arguments_weight given ≡ suc (suc (inlines_weight (positional_in a) + nameds_weight (nameds_in a))) = ap (λ o. maybe_arguments_weight (maybe_arguments_of o)) c.in-Some.is ∙ weight-some (arguments_of a) ∙ ap suc (weight-in a) in
    let less = less-part (suc (left b)) (suc (left b)) (suc (ids_weight (ids_view _ c.args.place.now.ids.now))) (inlines_weight (positional_in a)) (maybe_arguments_weight given) 3 1 (le_refl (suc (left b))) (omega (arith, weight)) (omega arith) in
    let measure = c.decreases in search rules

pub arguments::own_arguments-named_values-requires : goal.arguments::own_arguments-named_values-requires
arguments::own_arguments-named_values-requires g n c κs inside0 =
    let env = resolved_in c.args.place.now in
    let here = place_view c.args.place.now c.args.progress.now in
    let b = (state c.args.progress.now).budget in
    let a = c.in-Some.arguments in
    let given = maybe_arguments_of c.args.arguments.now in
    let ps = positional_in a in
    let weight : maybe_arguments_weight given ≡ suc (suc (inlines_weight (positional_in a) + nameds_weight (nameds_in a))) = ap (λ o. maybe_arguments_weight (maybe_arguments_of o)) c.in-Some.is ∙ weight-some (arguments_of a) ∙ ap suc (weight-in a) in
    let p1 = state c.positional_values.new.progress in
    let fall : left p1.budget ≤ left b = finds-left (λ x. s.positional_found env ps here x) c.in_ok-positional_values-in-Some.ensures.found (positional-falls env (s.pattern_written env) (pattern-falls env) ps here b) in
    let less = less-part (suc (left p1.budget)) (suc (left b)) (suc (ids_weight (ids_view _ c.args.place.now.ids.now))) (nameds_weight (nameds_in a)) (maybe_arguments_weight given) 3 1 (omega (arith, fall)) (omega (arith, weight)) (omega arith) in
    let measure = c.decreases in search rules

pub arguments::own_arguments-returns-in_ok-positional_values-in-Some : goal.arguments::own_arguments-returns-in_ok-positional_values-in-Some
arguments::own_arguments-returns-in_ok-positional_values-in-Some g n c =
    let env = resolved_in c.args.place.now in
    let here = place_view c.args.place.now c.args.progress.now in
    let a = c.in-Some.arguments in
    let given = maybe_arguments_of c.args.arguments.now in
    let is = ap maybe_arguments_of c.in-Some.is in
    let same = ap (λ o. s.arguments_found env o here (state c.args.progress.now).budget) (sym is) in
    let first = c.in_ok-positional_values-in-Some.ensures in
    let at_place = same-place c.args.place.now first.path in
    value-by-part (λ x h. finds-mapped (s.arguments_found env given here) (finds-as _ _ same (given-found env here a first.found at_place h)) (λ called. called.named)) (λ h. tells-like _ refl (tells-as same (given-second env here a first.found at_place h))) first.path first.stack
    (λ m h. subst (λ x. TakesMaybe env.find here.path x m) (sym is) (in_given (subst (λ x. TakesArguments env.find here.path x m) (sym (arguments-in a)) (in_named (subst (λ p. TakesNameds env.find p (nameds_in a) m) (ap (map entered) first.path) h)))))
    c.named_values.ensures

pub arguments::own_arguments-returns-in_err-positional_values-in-Some : goal.arguments::own_arguments-returns-in_err-positional_values-in-Some
arguments::own_arguments-returns-in_err-positional_values-in-Some g n c =
    let env = resolved_in c.args.place.now in
    let here = place_view c.args.place.now c.args.progress.now in
    let a = c.in-Some.arguments in
    let is = ap maybe_arguments_of c.in-Some.is in
    let was = c.in_err-positional_values-in-Some.ensures in
    value-refuses c.from_residual.ensures.0 (tells-like _ refl (tells-as (ap (λ o. s.arguments_found env o here (state c.args.progress.now).budget) (sym is)) (given-first env here a was.refused)))
    (past-in (λ m h. subst (λ x. TakesMaybe env.find here.path x m) (sym is) (in_given (subst (λ x. TakesArguments env.find here.path x m) (sym (arguments-in a)) (in_positional h)))) was.deep)

pub arguments::own_arguments-returns-in-None : goal.arguments::own_arguments-returns-in-None
arguments::own_arguments-returns-in-None g n c =
    let env = resolved_in c.args.place.now in
    let here = place_view c.args.place.now c.args.progress.now in
    let s0 = state c.args.progress.now in
    let b = s0.budget in
    value-is (finds-done _ [] s0 _ (within c.args.progress.now) (ap (mapped (λ called. called.named)) (ap (λ m. s.arguments_found env m here b) (ap maybe_arguments_of c.in-None.is) ∙ arguments-none env here b)) c.new.ensures) refl refl

pub arguments::positional_values-loop-argument-init : goal.arguments::positional_values-loop-argument-init
arguments::positional_values-loop-argument-init g n c =
    let env = resolved_in c.args.place.now in
    let here = place_view c.args.place.now c.args.progress.now in
    let s0 = state c.args.progress.now in
    let b = s0.budget in
    record { found = finds-done _ [] s0 _ (within c.args.progress.now) (positional-none env here b) (ap (map (value_view g.C.FluentType.meaning)) c.in_ok-values.ensures.items); path = refl; stack = refl }

pub arguments::positional_values-loop-argument-preserved : goal.arguments::positional_values-loop-argument-preserved
arguments::positional_values-loop-argument-preserved g n c =
    let env = resolved_in c.args.place.now in
    let here = place_view c.args.place.now c.args.progress.now in
    let invariant = c.loop-argument.invariant in
    let was = c.in_ok-value_of.ensures in
    let pushed = ap (map (value_view g.C.FluentType.meaning)) c.in_ok-push.ensures.items ∙ map-append (value_view g.C.FluentType.meaning) c.loop-argument.values.items (c.in_ok-value_of.field-0 ∷ []) in
    let step = positional-more env here c.deref-argument-items.ensures.value c.loop-argument.argument-index c.argument-item.result c.loop-argument-test.true c.argument-item.is invariant.found (same-place c.args.place.now invariant.path) was.found in
    record { found = record { value = pushed ∙ step.value; state = step.state }; path = was.path ∙ invariant.path; stack = was.stack ∙ invariant.stack }

pub arguments::positional_values-value_of-requires : goal.arguments::positional_values-value_of-requires
arguments::positional_values-value_of-requires g n c κs inside0 =
    let env = resolved_in c.args.place.now in
    let here = place_view c.args.place.now c.args.progress.now in
    let b = (state c.args.progress.now).budget in
    let u = state c.loop-argument.progress in
    let lent = c.deref-argument-items.ensures.value in
    let i = c.loop-argument.argument-index in
    let arg = c.argument-item.result in
    let fall : left u.budget ≤ left b = positional-left env here lent i arg c.loop-argument-test.true c.argument-item.is c.loop-argument.invariant.found in
    let light = positional-light env here lent i arg c.loop-argument-test.true c.argument-item.is in
    let less = less-part (suc (left u.budget)) (suc (left b)) (suc (ids_weight (ids_view _ c.args.place.now.ids.now))) (inline_weight (inline_of arg)) (inlines_weight (inlines_of (map inline_of c.args.arguments.now.items))) 3 3 (omega (arith, fall)) light (omega arith) in
    let measure = c.decreases in search rules

pub arguments::positional_values-returns-in_err-value_of : goal.arguments::positional_values-returns-in_err-value_of
arguments::positional_values-returns-in_err-value_of g n c =
    let env = resolved_in c.args.place.now in
    let here = place_view c.args.place.now c.args.progress.now in
    let lent = c.deref-argument-items.ensures.value in
    let i = c.loop-argument.argument-index in
    let arg = c.argument-item.result in
    let invariant = c.loop-argument.invariant in
    let was = c.in_err-value_of.ensures in
    value-refuses c.from_residual-in_err-value_of.ensures.0 (positional-tells env here lent i arg c.loop-argument-test.true c.argument-item.is invariant.found (same-place c.args.place.now invariant.path) was.refused)
    (past-in (positional-takes env here lent i arg c.loop-argument-test.true c.argument-item.is) (past-at (λ p m. TakesValue env.find p (inline_of arg) m) invariant.stack (ap (map entered) invariant.path) was.deep))

pub arguments::positional_values-returns-in_err-push : goal.arguments::positional_values-returns-in_err-push
arguments::positional_values-returns-in_err-push g n c =
    let env = resolved_in c.args.place.now in
    let here = place_view c.args.place.now c.args.progress.now in
    let arg = c.argument-item.result in
    let invariant = c.loop-argument.invariant in
    let was = c.in_ok-value_of.ensures in
    let one = found-tells (s.value_found env (inline_of arg) (place_view c.args.place.now c.loop-argument.progress)) was.found in
    value-runs-out c.from_residual-in_err-push.ensures.0 (positional-tells env here c.deref-argument-items.ensures.value c.loop-argument.argument-index arg c.loop-argument-test.true c.argument-item.is invariant.found (same-place c.args.place.now invariant.path) one) (was.stack ∙ invariant.stack)

pub arguments::positional_values-returns-in_err-values : goal.arguments::positional_values-returns-in_err-values
arguments::positional_values-returns-in_err-values g n c =
    value-runs-out c.from_residual.ensures.0 (tells-same _ refl) refl

pub arguments::named_values-loop-argument-init : goal.arguments::named_values-loop-argument-init
arguments::named_values-loop-argument-init g n c =
    let env = resolved_in c.args.place.now in
    let here = place_view c.args.place.now c.args.progress.now in
    let s0 = state c.args.progress.now in
    let b = s0.budget in
    record { found = finds-done _ [] s0 _ (within c.args.progress.now) (ap (mapped (all_set [])) (named-none env here b)) c.new-values.ensures; path = refl; stack = refl }

pub arguments::named_values-loop-argument-preserved : goal.arguments::named_values-loop-argument-preserved
arguments::named_values-loop-argument-preserved g n c =
    let env = resolved_in c.args.place.now in
    let here = place_view c.args.place.now c.args.progress.now in
    let invariant = c.loop-argument.invariant in
    let was = c.in_ok-value.ensures in
    let step = named-more env here c.deref-argument-items.ensures.value c.loop-argument.argument-index c.argument-item.result c.loop-argument-test.true c.argument-item.is invariant.found (same-place c.args.place.now invariant.path) was.found in
    record { found = record { value = c.in_ok-set_value.ensures.ok ∙ step.value; state = step.state }; path = was.path ∙ invariant.path; stack = was.stack ∙ invariant.stack }

pub arguments::named_values-value_of-requires : goal.arguments::named_values-value_of-requires
arguments::named_values-value_of-requires g n c κs inside0 =
    let env = resolved_in c.args.place.now in
    let here = place_view c.args.place.now c.args.progress.now in
    let b = (state c.args.progress.now).budget in
    let u = state c.loop-argument.progress in
    let lent = c.deref-argument-items.ensures.value in
    let i = c.loop-argument.argument-index in
    let arg = c.argument-item.result in
    let fall : left u.budget ≤ left b = named-left env here lent i arg c.loop-argument-test.true c.argument-item.is c.loop-argument.invariant.found in
    let light = named-light env here lent i arg c.loop-argument-test.true c.argument-item.is in
    let less = less-part (suc (left u.budget)) (suc (left b)) (suc (ids_weight (ids_view _ c.args.place.now.ids.now))) (inline_weight (inline_of (out-NamedArgument (Bor (List ℕ)) arg).value)) (nameds_weight (nameds_of (map (named_view (Bor (List ℕ)) (λ s. s.now)) c.args.arguments.now.items))) 3 3 (omega (arith, fall)) light (omega arith) in
    let measure = c.decreases in search rules

pub arguments::named_values-returns-in_err-value : goal.arguments::named_values-returns-in_err-value
arguments::named_values-returns-in_err-value g n c =
    let env = resolved_in c.args.place.now in
    let here = place_view c.args.place.now c.args.progress.now in
    let lent = c.deref-argument-items.ensures.value in
    let i = c.loop-argument.argument-index in
    let arg = c.argument-item.result in
    let invariant = c.loop-argument.invariant in
    let was = c.in_err-value.ensures in
    value-refuses c.from_residual.ensures.0 (named-tells env here lent i arg c.loop-argument-test.true c.argument-item.is invariant.found (same-place c.args.place.now invariant.path) was.refused)
    (past-in (named-takes env here lent i arg c.loop-argument-test.true c.argument-item.is) (past-at (λ p m. TakesValue env.find p (inline_of (out-NamedArgument (Bor (List ℕ)) arg).value) m) invariant.stack (ap (map entered) invariant.path) was.deep))

pub arguments::named_values-returns-in_err-set_value : goal.arguments::named_values-returns-in_err-set_value
arguments::named_values-returns-in_err-set_value g n c =
    let env = resolved_in c.args.place.now in
    let here = place_view c.args.place.now c.args.progress.now in
    let arg = c.argument-item.result in
    let invariant = c.loop-argument.invariant in
    let was = c.in_ok-value.ensures in
    let one = found-tells (s.value_found env (inline_of (out-NamedArgument (Bor (List ℕ)) arg).value) (place_view c.args.place.now c.loop-argument.progress)) was.found in
    value-runs-out c.from_residual-in_err-set_value.ensures.0 (named-tells env here c.deref-argument-items.ensures.value c.loop-argument.argument-index arg c.loop-argument-test.true c.argument-item.is invariant.found (same-place c.args.place.now invariant.path) one) (was.stack ∙ invariant.stack)
