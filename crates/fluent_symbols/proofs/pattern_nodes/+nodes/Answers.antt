use Rattle.std.proofs.Common.{◌≡◌, ◌∙◌, ◌+◌, ◌++◌, map, drop, refl, sym, ap}
use denote.Ref.{Bor}
use Rattle.std.proofs.lemmas.List.{drop_all}
use Rattle.fluent_grammar.specs.Lines.{ends_line}
use Rattle.fluent_grammar.specs.Words.{Text}
use Rattle.fluent_grammar.specs.Tree.{function_reference, message_reference, nested, no_inlines, no_nameds, no_variants, select, term_reference, variable_reference}
use Rattle.fluent_ast.specs.View.{element_view, elements_of, inlines_of, named_view, nameds_of, variant_view, variants_of}
use Rattle.fluent_ast.specs.Borrowed.{arguments_of, expression_of, inline_of, maybe_arguments_of, name_of, named_of, positional_of}
use Rattle.fluent_ast.specs.Borrowed as borrowed
use Rattle.fluent_ast.proofs.Views.{arguments_view-out, element_view-TextElement, element_view-Placeable, expression_view-Inline, expression_view-Select, inline_view-StringLiteral, inline_view-NumberLiteral, inline_view-VariableReference, inline_view-MessageReference, inline_view-FunctionReference, inline_view-TermReference, inline_view-Placeable, named_view-out, pattern_view-out, variant_view-out}
use Rattle.lint_nodes.specs.Rests.{after_texts, elements_rest, inlines_rest, nameds_rest, variants_rest}
use Rattle.fluent_symbols.specs.Node.{leaf, text_element}
use Rattle.fluent_symbols.specs.NodeView.{kind_view, node_view}
use Rattle.fluent_symbols.specs.NodePartView.{name_if}
use Rattle.fluent_symbols.specs.PatternNodes.{elements_end, in_elements, in_inlines, in_nameds, in_variants}
use Rattle.fluent_symbols.proofs.NodeSteps.{seen_from, last_added, placeable_added, inline_added, select_added, variant_kept, text_kept, placeable_kept, pattern_added, same_arguments, arguments_added, positional_kept, named_kept, string_added, number_added, function_added, term_added, call_added, no_call_added, ended_alike, rest_alike, as_inline}
use Rattle.fluent_symbols.proofs.pattern_nodes.+nodes.Goals as goal
use Rattle.fluent_symbols.proofs.pattern_nodes.+nodes.Goals.{push_pattern-in-TextElement+in_ok-push_node-in-TextElement, push_pattern-in-Placeable+in_ok-at-in-Placeable}

-- ---- patterns

pub push_pattern-loop-element-init : goal.push_pattern-loop-element-init
push_pattern-loop-element-init t c = (refl, refl, refl)

pub push_pattern-loop-element-preserved : goal.push_pattern-loop-element-preserved
push_pattern-loop-element-preserved t c =
    let view = element_view _ (λ s. s.now) in
    let items = c.deref-element-items.result.now in
    let i = c.loop-element.element-index in
    let left = elements_of (map view (drop i items)) in
    let more = elements_of (map view (drop (i + 1) items)) in
    let from = c.loop-element in
    let to = c.match-element in
    let old = map node_view from.found.items in
    let new = map node_view to.found.items in
    let begun = c.pattern_start-begins_line.result in
    let first = c.first_placeable-next.result.now in
    let all = elements_of (map view items) in
    let rests = elements_rest all first in
    let end = elements_end begun.1 all begun.0.now first in
    let nodes = map node_view c.args.found.now.items ++ in_elements begun.1 all begun.0.now first in
    elim c.match-element.branch as (λ _. (elements_rest more to.next.now ≡ rests) × (elements_end to.at_line more to.at.now to.next.now ≡ end) × (new ++ in_elements to.at_line more to.at.now to.next.now ≡ nodes)) [
      | push_pattern-in-TextElement+in_ok-push_node-in-TextElement w ↦
          let seen = ap view w.in-TextElement.is ∙ element_view-TextElement _ (λ s. s.now) w.in-TextElement.value in
          let start = w.text_start-from.result.now in
          let itself : map node_view w.push_node.new.found.items ≡ old ++ leaf text_element start w.after_name-at.result.now = w.in_ok-push_node-in-TextElement.ensures.added in
          let one : new ≡ old ++ leaf text_element start to.at.now =
          ap (λ v. map node_view v.items) w.found-is ∙ itself ∙ ap (λ (r : Bor Text). old ++ leaf text_element start r.now) (sym w.at-is) in
          text_kept from.at_line to.at_line w.in-TextElement.value.now left more from.at.now start to.at.now from.next.now to.next.now rests end old new nodes
          (ap elements_of (seen_from view items i c.element-item.result c.loop-element-test.true c.element-item.is seen))
          w.text_start-from.ensures (ap (λ r. r.now) w.at-is ∙ w.after_name-at.ensures) (w.at_line-is ∙ w.ends_line-at_line.ensures ∙ ap ends_line w.as_bytes.ensures.value) (ap (λ r. r.now) w.next-is)
          one from.invariant.0 from.invariant.1 from.invariant.2
      | push_pattern-in-Placeable+in_ok-at-in-Placeable w ↦
          let seen = ap view w.in-Placeable.is ∙ element_view-Placeable _ (λ s. s.now) w.in-Placeable.expression in
          placeable_kept from.at_line to.at_line (expression_of w.in-Placeable.expression) left more from.at.now from.next.now to.at.now to.next.now rests end old new nodes
          (ap elements_of (seen_from view items i c.element-item.result c.loop-element-test.true c.element-item.is seen))
          (ap (λ r. r.now) w.at-is ∙ w.in_ok-at-in-Placeable.ensures.rest) (ap (λ r. r.now) w.next-is ∙ w.after_texts-next.ensures ∙ ap after_texts (sym (ap (λ r. r.now) w.at-is))) w.at_line-is
          (ap (λ v. map node_view v.items) w.found-is ∙ w.in_ok-at-in-Placeable.ensures.added)
          from.invariant.0 from.invariant.1 from.invariant.2
    ]

pub push_pattern-returns : goal.push_pattern-returns
push_pattern-returns t c =
    let view = element_view _ (λ s. s.now) in
    let items = c.deref-element-items.result.now in
    let i = c.loop-element.element-index in
    let at = c.loop-element in
    let start = c.pattern_start-begins_line in
    let whole = pattern_view-out _ (λ s. s.now) c.args.pattern.now ∙ ap (λ l. elements_of (map view l)) (sym c.deref-element-items.ensures.value) in
    let all =
    pattern_added (borrowed.elements_of c.args.pattern.now) (elements_of (map view items)) (elements_of (map view (drop i items))) start.result.1 at.at_line c.args.text.now start.result.0.now c.first_placeable-next.result.now at.at.now at.next.now c.line_end.result.now
    (map node_view c.args.found.now.items) (map node_view at.found.items)
    whole (ap (λ l. elements_of (map view l)) (drop_all i items c.loop-element-test.false)) start.ensures.start start.ensures.line c.first_placeable-next.ensures c.line_end.ensures
    at.invariant.0 at.invariant.1 at.invariant.2 in
    let last = ended_alike c.push_ended.result (map node_view c.push_ended.new.found.items) all.0 all.1 all.2 c.push_ended.ensures.rest c.push_ended.ensures.end c.push_ended.ensures.added in
    record { rest = last.0; end = last.1; added = last.2 }

-- ---- expressions

pub push_placeable-returns : goal.push_placeable-returns
push_placeable-returns t c =
    let all =
    placeable_added (expression_of c.args.part.now) c.args.text.now c.within.result.now c.in_ok-push_expression.field-0.now c.after_sign-rest.result.now
    (map node_view c.args.found.now.items) (map node_view c.push_expression.new.found.items)
    c.within.ensures c.in_ok-push_expression.ensures.rest c.after_sign-rest.ensures c.in_ok-push_expression.ensures.added in
    let last = ended_alike c.push_ended.result (map node_view c.push_ended.new.found.items) all.0 all.0 all.1 c.push_ended.ensures.rest c.push_ended.ensures.end c.push_ended.ensures.added in
    record { rest = last.0; end = last.1; added = last.2 }

pub push_expression-returns-in_ok-push_inline-in-Inline : goal.push_expression-returns-in_ok-push_inline-in-Inline
push_expression-returns-in_ok-push_inline-in-Inline t c =
    let is = ap expression_of c.in-Inline.is ∙ expression_view-Inline _ (λ s. s.now) c.in-Inline.inline in
    let ok = c.in_ok-push_inline-in-Inline in
    let all =
    inline_added (expression_of c.args.part.now) (inline_of c.in-Inline.inline) c.args.text.now ok.field-0.rest.now
    (map node_view c.args.found.now.items) (map node_view c.push_inline.new.found.items) is ok.ensures.rest ok.ensures.added in
    record { rest = all.0; added = all.1 }

pub push_expression-returns-in_ok-rest-in-Select : goal.push_expression-returns-in_ok-rest-in-Select
push_expression-returns-in_ok-rest-in-Select t c =
    let parts = c.in-Select in
    let selector = c.in_ok-selected-in-Select in
    let variants = borrowed.variants_of c.deref.result.now in
    let is = ap expression_of parts.is ∙ expression_view-Select _ (λ s. s.now) parts.selector parts.variants ∙ ap (λ l. select (inline_of parts.selector) (borrowed.variants_of l)) (sym c.deref.ensures.value) in
    let rest = c.in_ok-rest-in-Select in
    let all =
    select_added (expression_of c.args.part.now) (inline_of parts.selector) variants c.args.text.now selector.selected.rest.now c.first_variant.result.now rest.rest.now
    (map node_view c.args.found.now.items) (map node_view c.push_inline-in-Select.new.found.items) (map node_view c.push_variants.new.found.items)
    is selector.ensures.rest c.first_variant.ensures rest.ensures.rest selector.ensures.added rest.ensures.added in
    let last = rest_alike c.push_node.result (map node_view c.push_node.new.found.items) all.0 all.1 c.push_node.ensures.rest c.push_node.ensures.added in
    record { rest = last.0; added = last.1 }

pub push_variants-loop-variant-init : goal.push_variants-loop-variant-init
push_variants-loop-variant-init t c = (refl, refl)

pub push_variants-loop-variant-preserved : goal.push_variants-loop-variant-preserved
push_variants-loop-variant-preserved t c =
    let view = variant_view _ (λ s. s.now) in
    let items = c.args.variants.now in
    let i = c.loop-variant.variant-index in
    let seen = variant_view-out _ (λ s. s.now) c.variant-item.result in
    variant_kept _ _ _ (variants_of (map view (drop i items))) (variants_of (map view (drop (i + 1) items)))
    c.loop-variant.rest.now c.key_of_variant.result.now c.in_ok-push_key.field-0.now c.after_sign-value.result.now c.in_ok-ended.ended.end.now c.in_ok-ended.ended.rest.now c.skip_blank-rest.result.now _ (kind_view c.variant_kind.result)
    (map node_view c.loop-variant.found.items) (map node_view c.push_key.new.found.items) (map node_view c.push_pattern.new.found.items) (map node_view c.push_node.new.found.items) _
    (ap variants_of (seen_from view items i c.variant-item.result c.loop-variant-test.true c.variant-item.is seen))
    c.key_of_variant.ensures c.in_ok-push_key.ensures.rest c.after_sign-value.ensures c.in_ok-ended.ensures.rest c.in_ok-ended.ensures.end c.variant_kind.ensures c.skip_blank-rest.ensures
    c.in_ok-push_key.ensures.added c.in_ok-ended.ensures.added c.in_ok-push_node.ensures.added c.loop-variant.invariant.0 c.loop-variant.invariant.1

pub push_variants-returns : goal.push_variants-returns
push_variants-returns t c =
    let view = variant_view _ (λ s. s.now) in
    let items = c.args.variants.now in
    let i = c.loop-variant.variant-index in
    let s = c.loop-variant.rest.now in
    let all =
    last_added (λ l. variants_rest l s) (λ l. in_variants l s) (variants_of (map view (drop i items))) no_variants (map node_view c.loop-variant.found.items)
    (ap (λ l. variants_of (map view l)) (drop_all i items c.loop-variant-test.false)) refl c.loop-variant.invariant.0 c.loop-variant.invariant.1 in
    record { rest = c.skip_mark.ensures ∙ all.0; added = all.1 }

-- ---- inline expressions

pub push_inline-returns-in-StringLiteral : goal.push_inline-returns-in-StringLiteral
push_inline-returns-in-StringLiteral t c =
    let is = ap inline_of c.in-StringLiteral.is ∙ inline_view-StringLiteral _ (λ s. s.now) c.in-StringLiteral.value in
    let all =
    string_added (inline_of c.args.inline.now) c.in-StringLiteral.value.now c.args.text.now c.skip.result.now c.after_name.result.now c.skip-rest.result.now
    (map node_view c.args.found.now.items) is c.skip.ensures c.after_name.ensures c.skip-rest.ensures in
    let last = ended_alike c.push_ended.result (map node_view c.push_ended.new.found.items) all.0 all.1 all.2 c.push_ended.ensures.rest c.push_ended.ensures.end c.push_ended.ensures.added in
    record { rest = last.0; end = last.1; added = last.2 }

pub push_inline-returns-in-NumberLiteral : goal.push_inline-returns-in-NumberLiteral
push_inline-returns-in-NumberLiteral t c =
    let is = ap inline_of c.in-NumberLiteral.is ∙ inline_view-NumberLiteral _ (λ s. s.now) c.in-NumberLiteral.value in
    let from = c.after_name-rest in
    let call = c.push_ended-in-NumberLiteral in
    let all =
    number_added (inline_of c.args.inline.now) c.in-NumberLiteral.value.now c.args.text.now from.result.now (map node_view c.args.found.now.items) is from.ensures in
    let last = ended_alike call.result (map node_view call.new.found.items) all.0 all.1 all.2 call.ensures.rest call.ensures.end call.ensures.added in
    record { rest = last.0; end = last.1; added = last.2 }

pub push_inline-returns-in-VariableReference : goal.push_inline-returns-in-VariableReference
push_inline-returns-in-VariableReference t c =
    let id = c.in-VariableReference.id in
    let is = ap inline_of c.in-VariableReference.is ∙ inline_view-VariableReference _ (λ s. s.now) id in
    let call = c.push_variable_reference in
    let all = as_inline (inline_of c.args.inline.now) (variable_reference (name_of id)) c.args.text.now (map node_view c.args.found.now.items) is in
    let last = ended_alike call.result (map node_view call.new.found.items) all.0 all.1 all.2 call.ensures.rest call.ensures.end call.ensures.added in
    record { rest = last.0; end = last.1; added = last.2 }

pub push_inline-returns-in-MessageReference : goal.push_inline-returns-in-MessageReference
push_inline-returns-in-MessageReference t c =
    let parts = c.in-MessageReference in
    let is = ap inline_of parts.is ∙ inline_view-MessageReference _ (λ s. s.now) parts.id parts.attribute in
    let call = c.push_message_reference in
    let all =
    as_inline (inline_of c.args.inline.now) (message_reference (name_of parts.id) (name_if parts.attribute)) c.args.text.now (map node_view c.args.found.now.items) is in
    let last = ended_alike call.result (map node_view call.new.found.items) all.0 all.1 all.2 call.ensures.rest call.ensures.end call.ensures.added in
    record { rest = last.0; end = last.1; added = last.2 }

pub push_inline-returns-in-FunctionReference : goal.push_inline-returns-in-FunctionReference
push_inline-returns-in-FunctionReference t c =
    let parts = c.in-FunctionReference in
    let is = ap inline_of parts.is ∙ inline_view-FunctionReference _ (λ s. s.now) parts.id parts.arguments in
    let call = c.push_function_reference in
    let all =
    as_inline (inline_of c.args.inline.now) (function_reference (name_of parts.id) (arguments_of parts.arguments)) c.args.text.now (map node_view c.args.found.now.items) is in
    let last = ended_alike call.result (map node_view call.new.found.items) all.0 all.1 all.2 call.ensures.rest call.ensures.end call.ensures.added in
    record { rest = last.0; end = last.1; added = last.2 }

pub push_inline-returns-in-TermReference : goal.push_inline-returns-in-TermReference
push_inline-returns-in-TermReference t c =
    let parts = c.in-TermReference in
    let is = ap inline_of parts.is ∙ inline_view-TermReference _ (λ s. s.now) parts.id parts.attribute parts.arguments in
    let call = c.push_term_reference in
    let all =
    as_inline (inline_of c.args.inline.now) (term_reference (name_of parts.id) (name_if parts.attribute) (maybe_arguments_of parts.arguments)) c.args.text.now (map node_view c.args.found.now.items) is in
    let last = ended_alike call.result (map node_view call.new.found.items) all.0 all.1 all.2 call.ensures.rest call.ensures.end call.ensures.added in
    record { rest = last.0; end = last.1; added = last.2 }

pub push_inline-returns-in-Placeable : goal.push_inline-returns-in-Placeable
push_inline-returns-in-Placeable t c =
    let is = ap inline_of c.in-Placeable.is ∙ inline_view-Placeable _ (λ s. s.now) c.in-Placeable.expression ∙ ap (λ x. nested (expression_of x)) (sym c.deref.ensures) in
    let call = c.push_placeable in
    let all = as_inline (inline_of c.args.inline.now) (nested (expression_of c.deref.result.now)) c.args.text.now (map node_view c.args.found.now.items) is in
    let last = ended_alike call.result (map node_view call.new.found.items) all.0 all.1 all.2 call.ensures.rest call.ensures.end call.ensures.added in
    record { rest = last.0; end = last.1; added = last.2 }

pub push_function_reference-returns : goal.push_function_reference-returns
push_function_reference-returns t c =
    let name = c.in_ok-named in
    let called = c.in_ok-called in
    let all =
    function_added c.args.name.now (arguments_of c.args.arguments.now) c.args.text.now name.named.now c.skip_blank.result.now
    (map node_view c.args.found.now.items) (map node_view c.push_name.new.found.items) (map node_view c.push_arguments.new.found.items)
    name.ensures.rest c.skip_blank.ensures name.ensures.added called.ensures.added called.ensures.rest called.ensures.end in
    let last = ended_alike c.push_ended.result (map node_view c.push_ended.new.found.items) all.0 all.1 all.2 c.push_ended.ensures.rest c.push_ended.ensures.end c.push_ended.ensures.added in
    record { rest = last.0; end = last.1; added = last.2 }

pub push_term_reference-returns : goal.push_term_reference-returns
push_term_reference-returns t c =
    let name = c.in_ok-named in
    let end = c.in_ok-end in
    let called = c.in_ok-called in
    let all =
    term_added c.args.name.now (name_if c.args.attribute.now) (maybe_arguments_of c.args.arguments.now) c.args.text.now c.skip.result.now name.named.now end.end.now
    (map node_view c.args.found.now.items) (map node_view c.push_name.new.found.items) (map node_view c.push_attribute.new.found.items) (map node_view c.push_call.new.found.items)
    c.skip.ensures name.ensures.rest end.ensures.rest name.ensures.added end.ensures.added called.ensures.added called.ensures.rest called.ensures.end in
    let last = ended_alike c.push_ended.result (map node_view c.push_ended.new.found.items) all.0 all.1 all.2 c.push_ended.ensures.rest c.push_ended.ensures.end c.push_ended.ensures.added in
    record { rest = last.0; end = last.1; added = last.2 }

-- ---- calls

pub push_call-returns-in-Some : goal.push_call-returns-in-Some
push_call-returns-in-Some t c =
    let call = c.push_arguments in
    let all =
    call_added (maybe_arguments_of c.args.call.now) (arguments_of c.in-Some.call) c.args.text.now c.skip_blank.result.now (map node_view c.args.found.now.items) (ap maybe_arguments_of c.in-Some.is) c.skip_blank.ensures in
    let last = ended_alike call.result (map node_view call.new.found.items) all.0 all.1 all.2 call.ensures.rest call.ensures.end call.ensures.added in
    record { rest = last.0; end = last.1; added = last.2 }

pub push_call-returns-in-None : goal.push_call-returns-in-None
push_call-returns-in-None t c =
    let all =
    no_call_added (maybe_arguments_of c.args.call.now) c.args.text.now c.skip_blank-in-None.result.now (map node_view c.args.found.now.items)
    (ap maybe_arguments_of c.in-None.is) c.skip_blank-in-None.ensures in
    record { rest = all.0; end = all.1; added = all.2 }

pub push_arguments-returns : goal.push_arguments-returns
push_arguments-returns t c =
    let is = same_arguments (arguments_view-out _ (λ s. s.now) c.args.call.now) c.deref.ensures.value c.deref-2.ensures.value in
    let end = c.in_ok-push_named in
    let all =
    arguments_added (arguments_of c.args.call.now) (positional_of c.deref.result.now) (named_of c.deref-2.result.now) c.args.text.now c.within.result.now c.in_ok-named.named.now end.field-0.now c.skip-rest.result.now
    (map node_view c.args.found.now.items) (map node_view c.push_positional.new.found.items) (map node_view c.push_named.new.found.items)
    is c.within.ensures c.in_ok-named.ensures.rest end.ensures.rest c.skip-rest.ensures c.in_ok-named.ensures.added end.ensures.added in
    let last = ended_alike c.push_ended.result (map node_view c.push_ended.new.found.items) all.0 all.0 all.1 c.push_ended.ensures.rest c.push_ended.ensures.end c.push_ended.ensures.added in
    record { rest = last.0; end = last.1; added = last.2 }

pub push_positional-loop-argument-init : goal.push_positional-loop-argument-init
push_positional-loop-argument-init t c = (refl, refl)

pub push_positional-loop-argument-preserved : goal.push_positional-loop-argument-preserved
push_positional-loop-argument-preserved t c =
    let items = c.args.given.now in
    let i = c.loop-argument.argument-index in
    let ok = c.in_ok-push_inline in
    positional_kept (inline_of c.argument-item.result) (inlines_of (map inline_of (drop i items))) (inlines_of (map inline_of (drop (i + 1) items)))
    c.loop-argument.rest.now ok.field-0.rest.now c.skip_separator-rest.result.now _ (map node_view c.loop-argument.found.items) (map node_view c.push_inline.new.found.items) _
    (ap inlines_of (seen_from inline_of items i c.argument-item.result c.loop-argument-test.true c.argument-item.is refl))
    ok.ensures.rest c.skip_separator-rest.ensures ok.ensures.added c.loop-argument.invariant.0 c.loop-argument.invariant.1

pub push_positional-returns : goal.push_positional-returns
push_positional-returns t c =
    let items = c.args.given.now in
    let i = c.loop-argument.argument-index in
    let s = c.loop-argument.rest.now in
    let all =
    last_added (λ l. inlines_rest l s) (λ l. in_inlines l s) (inlines_of (map inline_of (drop i items))) no_inlines (map node_view c.loop-argument.found.items)
    (ap (λ l. inlines_of (map inline_of l)) (drop_all i items c.loop-argument-test.false)) refl c.loop-argument.invariant.0 c.loop-argument.invariant.1 in
    record { rest = all.0; added = all.1 }

pub push_named-loop-argument-init : goal.push_named-loop-argument-init
push_named-loop-argument-init t c = (refl, refl)

pub push_named-loop-argument-preserved : goal.push_named-loop-argument-preserved
push_named-loop-argument-preserved t c =
    let view = named_view _ (λ s. s.now) in
    let items = c.args.given.now in
    let i = c.loop-argument.argument-index in
    let seen = named_view-out _ (λ s. s.now) c.argument-item.result in
    named_kept _ _ (nameds_of (map view (drop i items))) (nameds_of (map view (drop (i + 1) items)))
    c.loop-argument.rest.now c.value_of_argument.result.now c.in_ok-ended.ended.rest.now c.in_ok-ended.ended.end.now c.skip_separator-rest.result.now _
    (map node_view c.loop-argument.found.items) (map node_view c.push_name.new.found.items) (map node_view c.push_inline.new.found.items) (map node_view c.push_node.new.found.items) _
    (ap nameds_of (seen_from view items i c.argument-item.result c.loop-argument-test.true c.argument-item.is seen))
    c.value_of_argument.ensures c.in_ok-ended.ensures.rest c.in_ok-ended.ensures.end c.skip_separator-rest.ensures
    c.in_ok-push_name.ensures.added c.in_ok-ended.ensures.added c.in_ok-push_node.ensures.added c.loop-argument.invariant.0 c.loop-argument.invariant.1

pub push_named-returns : goal.push_named-returns
push_named-returns t c =
    let view = named_view _ (λ s. s.now) in
    let items = c.args.given.now in
    let i = c.loop-argument.argument-index in
    let s = c.loop-argument.rest.now in
    let all =
    last_added (λ l. nameds_rest l s) (λ l. in_nameds l s) (nameds_of (map view (drop i items))) no_nameds (map node_view c.loop-argument.found.items)
    (ap (λ l. nameds_of (map view l)) (drop_all i items c.loop-argument-test.false)) refl c.loop-argument.invariant.0 c.loop-argument.invariant.1 in
    record { rest = all.0; added = all.1 }
