use Rattle.std.proofs.Common.{[], ◌∷◌, ◌++◌, string_bytes, map, take, ap, sym, ◌∙◌, refl, append-nil, option_map, vec_len}
use Rattle.std.specs.Prelude.{◌||◌, not, false}
use Rattle.fluent_grammar.specs.Tree.{inline, term_reference}
use Rattle.fluent_ast.specs.declared.CallArguments.{out-CallArguments}
use Rattle.fluent_grammar.specs.Written.{onto, arguments_signs, elements_signs, expression_signs, inline_signs, inlines_signs, nameds_signs, placeable_signs, variants_signs, has_positional}
use Rattle.fluent_grammar.proofs.LaidOut.{onto-nil, onto-then}
use Rattle.fluent_ast.specs.View.{element_view, elements_of, expression_view, inline_view, inlines_of, variant_view, variants_of, named_view, nameds_of, name_of, arguments_view, maybe_arguments}
use Rattle.fluent_serializer.proofs.Braces.{in_braces-no_placeable}
use Rattle.fluent_ast.proofs.Copied.{map-take_more}
use Rattle.fluent_serializer.proofs.Laid.{elements_signs-append, variants_signs-append, inlines_signs-push, has_positional-push, has_positional-length, has_named, nameds_signs-push, has_named-push, or_false}
use Rattle.fluent_serializer.proofs.Onto.{onto-finish, onto-of}
use Rattle.fluent_ast.proofs.Views.{arguments_view-out, element_view-TextElement, element_view-Placeable, expression_view-Select, inline_view-StringLiteral, inline_view-FunctionReference, inline_view-MessageReference, inline_view-TermReference, inline_view-VariableReference, inline_view-Placeable, named_view-out, pattern_view-out, variant_view-out}
use Rattle.fluent_serializer.proofs.+writing.Goals as goal
use Rattle.fluent_serializer.proofs.+writing.Goals.{expressions::write_elements-in-TextElement+in_ok-write_piece-in-TextElement, expressions::write_elements-in-Placeable+in_ok-write_placeable-in-Placeable}

pub inline::write_all_named-loop-argument-init : goal.inline::write_all_named-loop-argument-init
inline::write_all_named-loop-argument-init g t c = (sym (onto-nil _), sym (or_false _))

pub inline::write_all_named-loop-argument-preserved : goal.inline::write_all_named-loop-argument-preserved
inline::write_all_named-loop-argument-preserved g t c =
    let S = g.row.S.Denot in
    let text_of = g.T.Texts.text in
    let view = named_view S text_of in
    let level = c.args.level in
    let after = c.args.after in
    let item = c.argument-item.result in
    let before = map view (take c.loop-argument.argument-index c.args.arguments.now) in
    let seen = named_view-out S text_of item in
    let more = map-take_more view c.args.arguments.now c.loop-argument.argument-index item c.loop-argument-test.true c.argument-item.is ∙ ap (λ n. before ++ n ∷ []) seen in
    let name = rw c.loop-argument.invariant.1 at c.in_ok-write_argument_name.ensures in
    let all = onto-then _ _ _ c.loop-argument.invariant.0 (onto-then _ _ _ name c.in_ok-write_inline.ensures) in (
      all ∙ ap (onto _) (sym (ap (λ ns. nameds_signs level after (nameds_of ns)) more ∙ nameds_signs-push level after before _)),
      sym (ap (λ ns. after || has_named (nameds_of ns)) more ∙ has_named-push after before _),
    )

pub inline::write_arguments-returns : goal.inline::write_arguments-returns
inline::write_arguments-returns g t c =
    let S = g.row.S.Denot in
    let text_of = g.T.Texts.text in
    let positional = rw c.deref.ensures.value at c.in_ok-write_positional.ensures in
    let v = (out-CallArguments S c.args.arguments.now).positional in
    let after = ap not c.is_empty-after.ensures ∙ has_positional-length (inline_view S text_of) v.items (vec_len v) v.ok.0 in
    let named = rw (after, c.deref-2.ensures.value) at c.in_ok-write_all_named.ensures in
    onto-of (arguments_signs c.args.level) _ _ _ (arguments_view-out S text_of c.args.arguments.now)
    (onto-finish _ _ _ _ _ c.in_ok-write_piece.ensures
    (onto-finish _ _ _ _ _ (onto-then _ _ _ positional named) c.write_piece-2.ensures))

pub expressions::write_elements-loop-element-init : goal.expressions::write_elements-loop-element-init
expressions::write_elements-loop-element-init g t c = sym (onto-nil _)

pub expressions::write_elements-loop-element-preserved : goal.expressions::write_elements-loop-element-preserved
expressions::write_elements-loop-element-preserved g t c =
    let S = g.row.S.Denot in
    let text_of = g.T.Texts.text in
    let view = element_view S text_of in
    let level = c.args.level in
    let item = c.element-item.result in
    let before = map view (take c.loop-element.element-index c.args.elements.now) in
    let more = map-take_more view c.args.elements.now c.loop-element.element-index item c.loop-element-test.true c.element-item.is in
    let signs = ap (λ es. elements_signs level (elements_of es)) more ∙ elements_signs-append level before (view item ∷ []) in
    elim c.match-element.branch [
      | expressions::write_elements-in-TextElement+in_ok-write_piece-in-TextElement w ↦
          let seen = ap view w.in-TextElement.is ∙ element_view-TextElement S text_of w.in-TextElement.value in
          let here = ap (λ e. elements_signs level (elements_of (e ∷ []))) seen in
          let one = rw w.as_str.ensures at w.in_ok-write_piece-in-TextElement.ensures in
          ap string_bytes w.out-is ∙ onto-then _ _ _ c.loop-element.invariant one ∙ ap (onto _) (sym (signs ∙ ap (λ x. elements_signs level (elements_of before) ++ x) here))
      | expressions::write_elements-in-Placeable+in_ok-write_placeable-in-Placeable w ↦
          let seen = ap view w.in-Placeable.is ∙ element_view-Placeable S text_of w.in-Placeable.expression in
          let here = ap (λ e. elements_signs level (elements_of (e ∷ []))) seen ∙ append-nil (placeable_signs level (expression_view S text_of w.in-Placeable.expression)) in
          ap string_bytes w.out-is ∙ onto-then _ _ _ c.loop-element.invariant w.in_ok-write_placeable-in-Placeable.ensures ∙ ap (onto _) (sym (signs ∙ ap (λ x. elements_signs level (elements_of before) ++ x) here))
    ]

pub expressions::write_expression-returns-in_ok-write_variants-in-Select :
    goal.expressions::write_expression-returns-in_ok-write_variants-in-Select
expressions::write_expression-returns-in_ok-write_variants-in-Select g t c =
    let S = g.row.S.Denot in
    let text_of = g.T.Texts.text in
    let is = ap (expression_view S text_of) c.in-Select.is ∙ expression_view-Select S text_of c.in-Select.selector c.in-Select.variants in
    onto-of (expression_signs c.args.level) _ _ _ is
    (onto-finish _ _ _ _ _ c.in_ok-write_inline-in-Select.ensures
    (onto-finish _ _ _ _ _ c.in_ok-write_piece-in-Select.ensures
    (onto-finish _ _ _ _ _ (rw c.deref.ensures.value at c.in_ok-write_variants-in-Select.ensures) c.write_new_line.ensures)))

pub inline::write_inline-returns-in_ok-write_piece-in-StringLiteral-2 :
    goal.inline::write_inline-returns-in_ok-write_piece-in-StringLiteral-2
inline::write_inline-returns-in_ok-write_piece-in-StringLiteral-2 g t c =
    let S = g.row.S.Denot in
    let text_of = g.T.Texts.text in
    let is = ap (inline_view S text_of) c.in-StringLiteral.is ∙ inline_view-StringLiteral S text_of c.in-StringLiteral.value in
    onto-of (inline_signs c.args.level) _ _ _ is
    (onto-finish _ _ _ _ _ c.in_ok-write_piece-in-StringLiteral.ensures
    (onto-finish _ _ _ _ _ (rw c.as_str.ensures at c.in_ok-write_piece-in-StringLiteral-2.ensures) c.write_piece-in-StringLiteral-2.ensures))

pub inline::write_inline-returns-in_ok-write_name-in-FunctionReference :
    goal.inline::write_inline-returns-in_ok-write_name-in-FunctionReference
inline::write_inline-returns-in_ok-write_name-in-FunctionReference g t c =
    let S = g.row.S.Denot in
    let text_of = g.T.Texts.text in
    let is = ap (inline_view S text_of) c.in-FunctionReference.is ∙ inline_view-FunctionReference S text_of c.in-FunctionReference.id c.in-FunctionReference.arguments in
    onto-of (inline_signs c.args.level) _ _ _ is
    (onto-finish _ _ _ _ _ c.in_ok-write_name-in-FunctionReference.ensures c.write_arguments.ensures)

pub inline::write_inline-returns-in_ok-write_name-in-MessageReference :
    goal.inline::write_inline-returns-in_ok-write_name-in-MessageReference
inline::write_inline-returns-in_ok-write_name-in-MessageReference g t c =
    let S = g.row.S.Denot in
    let text_of = g.T.Texts.text in
    let is = ap (inline_view S text_of) c.in-MessageReference.is ∙ inline_view-MessageReference S text_of c.in-MessageReference.id c.in-MessageReference.attribute in
    onto-of (inline_signs c.args.level) _ _ _ is
    (onto-finish _ _ _ _ _ c.in_ok-write_name-in-MessageReference.ensures c.write_accessor.ensures)

pub inline::write_inline-returns-in-Some : goal.inline::write_inline-returns-in-Some
inline::write_inline-returns-in-Some g t c =
    let S = g.row.S.Denot in
    let text_of = g.T.Texts.text in
    let is = ap (inline_view S text_of) c.in-TermReference.is ∙ inline_view-TermReference S text_of c.in-TermReference.id c.in-TermReference.attribute c.in-TermReference.arguments ∙ ap (λ a. term_reference (name_of S text_of c.in-TermReference.id) (option_map (name_of S text_of) c.in-TermReference.attribute) (maybe_arguments (option_map (arguments_view S text_of) a))) c.in-Some.is in
    let head = onto-then _ _ _ c.in_ok-write_piece-in-TermReference.ensures (onto-then _ _ _ c.in_ok-write_name-in-TermReference.ensures c.in_ok-write_accessor-in-TermReference.ensures) in
    onto-of (inline_signs c.args.level) _ _ _ is (onto-finish _ _ _ _ _ head c.write_arguments-in-Some.ensures)

pub inline::write_inline-returns-in-None : goal.inline::write_inline-returns-in-None
inline::write_inline-returns-in-None g t c =
    let S = g.row.S.Denot in
    let text_of = g.T.Texts.text in
    let is = ap (inline_view S text_of) c.in-TermReference.is ∙ inline_view-TermReference S text_of c.in-TermReference.id c.in-TermReference.attribute c.in-TermReference.arguments ∙ ap (λ a. term_reference (name_of S text_of c.in-TermReference.id) (option_map (name_of S text_of) c.in-TermReference.attribute) (maybe_arguments (option_map (arguments_view S text_of) a))) c.in-None.is in
    let head = onto-then _ _ _ c.in_ok-write_piece-in-TermReference.ensures (onto-then _ _ _ c.in_ok-write_name-in-TermReference.ensures c.in_ok-write_accessor-in-TermReference.ensures) in
    head ∙ ap (onto _) (sym (ap (inline_signs c.args.level) is ∙ append-nil _))

pub inline::write_inline-returns-in_ok-write_piece-in-VariableReference : goal.inline::write_inline-returns-in_ok-write_piece-in-VariableReference
inline::write_inline-returns-in_ok-write_piece-in-VariableReference g t c =
    let S = g.row.S.Denot in
    let text_of = g.T.Texts.text in
    let is = ap (inline_view S text_of) c.in-VariableReference.is ∙ inline_view-VariableReference S text_of c.in-VariableReference.id in
    onto-of (inline_signs c.args.level) _ _ _ is
    (onto-finish _ _ _ _ _ c.in_ok-write_piece-in-VariableReference.ensures c.write_name-in-VariableReference.ensures)

pub inline::write_inline-returns-in_ok-write_expression-in-Placeable : goal.inline::write_inline-returns-in_ok-write_expression-in-Placeable
inline::write_inline-returns-in_ok-write_expression-in-Placeable g t c =
    let S = g.row.S.Denot in
    let text_of = g.T.Texts.text in
    let is = ap (inline_view S text_of) c.in-Placeable.is ∙ inline_view-Placeable S text_of c.in-Placeable.expression in
    onto-of (inline_signs c.args.level) _ _ _ is
    (onto-finish _ _ _ _ _ c.in_ok-write_piece-in-Placeable.ensures
    (onto-finish _ _ _ _ _ (rw c.deref.ensures at c.in_ok-write_expression-in-Placeable.ensures) c.write_piece-in-Placeable-2.ensures))

pub expressions::write_inline_placeable-returns-in_ok-write_expression-in-Placeable : goal.expressions::write_inline_placeable-returns-in_ok-write_expression-in-Placeable
expressions::write_inline_placeable-returns-in_ok-write_expression-in-Placeable g t c =
    let S = g.row.S.Denot in
    let text_of = g.T.Texts.text in
    let is = ap (inline_view S text_of) c.in-Placeable.is ∙ inline_view-Placeable S text_of c.in-Placeable.expression in
    let inside = rw c.deref.ensures at c.in_ok-write_expression-in-Placeable.ensures in
    let closed = rw (c.closing_nested.ensures text_of, c.deref-in-Placeable.ensures) at c.write_piece-in-Placeable.ensures in
    onto-of (λ i. placeable_signs c.args.level (inline i)) _ _ _ is
    (onto-finish _ _ _ _ _ c.in_ok-write_piece-in-Placeable.ensures
    (onto-finish _ _ _ _ _ inside closed))

pub expressions::write_inline_placeable-returns-in_ok-write_inline-in_default : goal.expressions::write_inline_placeable-returns-in_ok-write_inline-in_default
expressions::write_inline_placeable-returns-in_ok-write_inline-in_default g t c =
    let S = g.row.S.Denot in
    let text_of = g.T.Texts.text in
    let level = c.args.level in
    let braced = onto-finish _ _ _ _ _ c.in_ok-write_piece-in_default.ensures (onto-finish _ _ _ _ _ c.in_ok-write_inline-in_default.ensures c.write_piece-in_default-2.ensures) in
    onto-of (λ signs. signs) _ _ _ (in_braces-no_placeable S text_of level c.args.inline.now c.in_default.not-Placeable) braced

pub expressions::write_pattern-returns : goal.expressions::write_pattern-returns
expressions::write_pattern-returns g t c =
    let S = g.row.S.Denot in
    let text_of = g.T.Texts.text in
    let pattern = c.args.pattern.now in
    let seen = pattern_view-out S text_of pattern in
    let elements = rw (c.deref.ensures.value, ← seen) at c.write_elements.ensures in
    onto-finish _ _ _ _ _ c.in_ok-write_pattern_start.ensures elements

pub expressions::write_placeable-returns-in_ok-write_expression-in-Select : goal.expressions::write_placeable-returns-in_ok-write_expression-in-Select
expressions::write_placeable-returns-in_ok-write_expression-in-Select g t c =
    let S = g.row.S.Denot in
    let text_of = g.T.Texts.text in
    let is = ap (expression_view S text_of) c.in-Select.is ∙ expression_view-Select S text_of c.in-Select.selector c.in-Select.variants in
    let inside = rw is at c.in_ok-write_expression-in-Select.ensures in
    onto-of (placeable_signs c.args.level) _ _ _ is
    (onto-finish _ _ _ _ _ c.in_ok-write_piece-in-Select.ensures
    (onto-finish _ _ _ _ _ inside c.write_piece-in-Select.ensures))

pub inline::write_positional-loop-argument-init : goal.inline::write_positional-loop-argument-init
inline::write_positional-loop-argument-init g t c = (sym (onto-nil _), refl)

pub inline::write_positional-loop-argument-preserved : goal.inline::write_positional-loop-argument-preserved
inline::write_positional-loop-argument-preserved g t c =
    let S = g.row.S.Denot in
    let text_of = g.T.Texts.text in
    let view = inline_view S text_of in
    let level = c.args.level in
    let item = c.argument-item.result in
    let before = map view (take c.loop-argument.argument-index c.args.arguments.now) in
    let more = map-take_more view c.args.arguments.now c.loop-argument.argument-index item c.loop-argument-test.true c.argument-item.is in
    let separator = rw c.loop-argument.invariant.1 at c.in_ok-write_separator.ensures in
    let all = onto-then _ _ _ c.loop-argument.invariant.0 (onto-then _ _ _ separator c.in_ok-write_inline.ensures) in (
      all ∙ ap (onto _) (sym (ap (λ ps. inlines_signs level false (inlines_of ps)) more ∙ inlines_signs-push level false before (view item))),
      sym (ap (λ ps. has_positional (inlines_of ps)) more ∙ has_positional-push before (view item)),
    )

pub expressions::write_variants-loop-variant-init : goal.expressions::write_variants-loop-variant-init
expressions::write_variants-loop-variant-init g t c = sym (onto-nil _)

pub expressions::write_variants-loop-variant-preserved : goal.expressions::write_variants-loop-variant-preserved
expressions::write_variants-loop-variant-preserved g t c =
    let S = g.row.S.Denot in
    let text_of = g.T.Texts.text in
    let view = variant_view S text_of in
    let level = c.args.level in
    let item = c.variant-item.result in
    let before = map view (take c.loop-variant.variant-index c.args.variants.now) in
    let seen = variant_view-out S text_of item in
    let more = map-take_more view c.args.variants.now c.loop-variant.variant-index item c.loop-variant-test.true c.variant-item.is ∙ ap (λ v. before ++ v ∷ []) seen in
    let pattern = rw c.in_ok-deeper.ensures at c.in_ok-write_pattern.ensures in
    let one = onto-then _ _ _ c.in_ok-write_variant_head.ensures pattern in
    let signs = ap (λ vs. variants_signs level (variants_of vs)) more ∙ variants_signs-append level before _ ∙ ap (λ x. variants_signs level (variants_of before) ++ x) (append-nil _) in
    onto-then _ _ _ c.loop-variant.invariant one ∙ ap (onto _) (sym signs)
