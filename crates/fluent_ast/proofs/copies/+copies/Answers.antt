use Rattle.std.proofs.Common.{ap, ◌∙◌, ◌≡◌, IfOk, sym, subst, map, refl}
use Rattle.std.proofs.lemmas.List.{take_all}
use Rattle.fluent_ast.specs.View.{placeable, element_view, expression_view, inline_view, variant_view, named_view}
use Rattle.fluent_ast.proofs.Views.{pattern_view-out, pattern_view-roll, inline_view-FunctionReference_same, element_view-TextElement_same, element_view-Placeable, expression_view-Inline, expression_view-Select_same, arguments_view_same, named_view_same, variant_view_same}
use Rattle.fluent_ast.specs.View.{elements_of}
use Rattle.fluent_grammar.specs.Tree.{inline}
use Rattle.fluent_ast.proofs.Copied.{map-copied_more}
use Rattle.fluent_ast.proofs.copies.+copies.Goals as goal

pub clone_variants-loop-variant-preserved : goal.clone_variants-loop-variant-preserved
clone_variants-loop-variant-preserved g t c =
    let view = variant_view g.row.S.Denot g.T.Texts.text in
    ap (map view) c.in_ok-push.ensures.items ∙ map-copied_more view c.loop-variant.copies.items c.args.variants.now c.loop-variant.variant-index c.in_ok-clone_variant.field-0 c.variant-item.result c.loop-variant-test.true c.variant-item.is c.in_ok-clone_variant.ensures c.loop-variant.invariant

pub clone_positional-loop-argument-preserved : goal.clone_positional-loop-argument-preserved
clone_positional-loop-argument-preserved g t c =
    let view = inline_view g.row.S.Denot g.T.Texts.text in
    ap (map view) c.in_ok-push.ensures.items ∙ map-copied_more view c.loop-argument.copies.items c.args.arguments.now c.loop-argument.argument-index c.in_ok-clone_inline.field-0 c.argument-item.result c.loop-argument-test.true c.argument-item.is c.in_ok-clone_inline.ensures c.loop-argument.invariant

pub clone_all_named-loop-argument-preserved : goal.clone_all_named-loop-argument-preserved
clone_all_named-loop-argument-preserved g t c =
    let view = named_view g.row.S.Denot g.T.Texts.text in
    ap (map view) c.in_ok-push.ensures.items ∙ map-copied_more view c.loop-argument.copies.items c.args.arguments.now c.loop-argument.argument-index c.in_ok-clone_named.field-0 c.argument-item.result c.loop-argument-test.true c.argument-item.is c.in_ok-clone_named.ensures c.loop-argument.invariant

pub clone_pattern-loop-element-preserved : goal.clone_pattern-loop-element-preserved
clone_pattern-loop-element-preserved g t c =
    let view = element_view g.row.S.Denot g.T.Texts.text in
    ap (map view) c.in_ok-push.ensures.items ∙ map-copied_more view c.loop-element.elements.items c.deref-element-items.result.now c.loop-element.element-index c.in_ok-clone_element.field-0 c.element-item.result c.loop-element-test.true c.element-item.is c.in_ok-clone_element.ensures c.loop-element.invariant

pub clone_pattern-returns : goal.clone_pattern-returns
clone_pattern-returns g t c =
    let S = g.row.S.Denot in
    let text_of = g.T.Texts.text in
    let all = take_all c.loop-element.element-index c.deref-element-items.result.now c.loop-element-test.false in
    pattern_view-roll S text_of (record { elements = c.loop-element.elements })
    ∙ ap elements_of (c.loop-element.invariant ∙ ap (map (element_view S text_of)) (all ∙ c.deref-element-items.ensures.value))
    ∙ sym (pattern_view-out S text_of c.args.pattern.now)

pub clone_call-returns : goal.clone_call-returns
clone_call-returns g t c = inline_view-FunctionReference_same g.row.S.Denot g.T.Texts.text c.in_ok-id.id c.args.id.now c.in_ok-arguments.arguments c.args.arguments.now c.in_ok-id.ensures c.in_ok-arguments.ensures

pub clone_element-returns-in_ok-value-in-TextElement : goal.clone_element-returns-in_ok-value-in-TextElement
clone_element-returns-in_ok-value-in-TextElement g t c =
    element_view-TextElement_same g.row.S.Denot g.T.Texts.text _ c.in-TextElement.value c.in_ok-value-in-TextElement.ensures
    ∙ sym (ap (element_view g.row.S.Denot g.T.Texts.text) c.in-TextElement.is)

pub clone_expression-returns-in_ok-selector-in-Select : goal.clone_expression-returns-in_ok-selector-in-Select
clone_expression-returns-in_ok-selector-in-Select g t c =
    let S = g.row.S.Denot in
    let text_of = g.T.Texts.text in
    expression_view-Select_same S text_of _ c.in-Select.selector _ c.in-Select.variants c.in_ok-selector-in-Select.ensures (c.in_ok-variants-in-Select.ensures ∙ ap (map (variant_view S text_of)) c.deref.ensures.value)
    ∙ sym (ap (expression_view S text_of) c.in-Select.is)

pub clone_arguments-returns : goal.clone_arguments-returns
clone_arguments-returns g t c =
    let S = g.row.S.Denot in
    let text_of = g.T.Texts.text in
    arguments_view_same S text_of _ _ c.args.arguments.now
    (c.in_ok-positional.ensures ∙ ap (map (inline_view S text_of)) c.deref.ensures.value)
    (c.in_ok-named.ensures ∙ ap (map (named_view S text_of)) c.deref-2.ensures.value)

pub clone_named-returns : goal.clone_named-returns
clone_named-returns g t c = named_view_same g.row.S.Denot g.T.Texts.text _ _ c.args.argument.now c.in_ok-name.ensures c.in_ok-value.ensures

pub clone_variant-returns : goal.clone_variant-returns
clone_variant-returns g t c = variant_view_same g.row.S.Denot g.T.Texts.text _ _ _ c.args.variant.now c.in_ok-key.ensures c.in_ok-value.ensures refl

pub clone_inline-returns-in-StringLiteral : goal.clone_inline-returns-in-StringLiteral
clone_inline-returns-in-StringLiteral g t c =
    let view = inline_view g.row.S.Denot g.T.Texts.text in
    subst (λ node. IfOk c.clone_string.result (λ copy. view copy ≡ view node)) (sym c.in-StringLiteral.is) c.clone_string.ensures

pub clone_inline-returns-in-NumberLiteral : goal.clone_inline-returns-in-NumberLiteral
clone_inline-returns-in-NumberLiteral g t c =
    let view = inline_view g.row.S.Denot g.T.Texts.text in
    subst (λ node. IfOk c.clone_number.result (λ copy. view copy ≡ view node)) (sym c.in-NumberLiteral.is) c.clone_number.ensures

pub clone_inline-returns-in-FunctionReference : goal.clone_inline-returns-in-FunctionReference
clone_inline-returns-in-FunctionReference g t c =
    let view = inline_view g.row.S.Denot g.T.Texts.text in
    subst (λ node. IfOk c.clone_call.result (λ copy. view copy ≡ view node)) (sym c.in-FunctionReference.is) c.clone_call.ensures

pub clone_inline-returns-in-MessageReference : goal.clone_inline-returns-in-MessageReference
clone_inline-returns-in-MessageReference g t c =
    let view = inline_view g.row.S.Denot g.T.Texts.text in
    subst (λ node. IfOk c.clone_message_reference.result (λ copy. view copy ≡ view node)) (sym c.in-MessageReference.is) c.clone_message_reference.ensures

pub clone_inline-returns-in-TermReference : goal.clone_inline-returns-in-TermReference
clone_inline-returns-in-TermReference g t c =
    let view = inline_view g.row.S.Denot g.T.Texts.text in
    subst (λ node. IfOk c.clone_term_reference.result (λ copy. view copy ≡ view node)) (sym c.in-TermReference.is) c.clone_term_reference.ensures

pub clone_inline-returns-in-VariableReference : goal.clone_inline-returns-in-VariableReference
clone_inline-returns-in-VariableReference g t c =
    let view = inline_view g.row.S.Denot g.T.Texts.text in
    subst (λ node. IfOk c.clone_variable.result (λ copy. view copy ≡ view node)) (sym c.in-VariableReference.is) c.clone_variable.ensures

pub clone_element-returns-in_ok-expression-in-Placeable : goal.clone_element-returns-in_ok-expression-in-Placeable
clone_element-returns-in_ok-expression-in-Placeable g t c =
    let S = g.row.S.Denot in
    let text_of = g.T.Texts.text in
    element_view-Placeable S text_of c.in_ok-expression-in-Placeable.expression
    ∙ ap placeable c.in_ok-expression-in-Placeable.ensures
    ∙ sym (ap (element_view S text_of) c.in-Placeable.is ∙ element_view-Placeable S text_of c.in-Placeable.expression)

pub clone_expression-returns-in_ok-clone_inline-in-Inline : goal.clone_expression-returns-in_ok-clone_inline-in-Inline
clone_expression-returns-in_ok-clone_inline-in-Inline g t c =
    let S = g.row.S.Denot in
    let text_of = g.T.Texts.text in
    expression_view-Inline S text_of c.in_ok-clone_inline-in-Inline.field-0
    ∙ ap inline c.in_ok-clone_inline-in-Inline.ensures
    ∙ sym (ap (expression_view S text_of) c.in-Inline.is ∙ expression_view-Inline S text_of c.in-Inline.inline)

pub clone_variants-returns : goal.clone_variants-returns
clone_variants-returns g t c =
    let all = take_all c.loop-variant.variant-index c.args.variants.now c.loop-variant-test.false in
    c.loop-variant.invariant ∙ ap (map (variant_view g.row.S.Denot g.T.Texts.text)) all

pub clone_positional-returns : goal.clone_positional-returns
clone_positional-returns g t c =
    let all = take_all c.loop-argument.argument-index c.args.arguments.now c.loop-argument-test.false in
    c.loop-argument.invariant ∙ ap (map (inline_view g.row.S.Denot g.T.Texts.text)) all

pub clone_all_named-returns : goal.clone_all_named-returns
clone_all_named-returns g t c =
    let all = take_all c.loop-argument.argument-index c.args.arguments.now c.loop-argument-test.false in
    c.loop-argument.invariant ∙ ap (map (named_view g.row.S.Denot g.T.Texts.text)) all
