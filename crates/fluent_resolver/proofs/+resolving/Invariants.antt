use Rattle.std.proofs.Common.{◌≡◌, [], suc, ◌+◌, ◌*◌, map, take}
use Rattle.fluent_ast.specs.View.{arguments_view, element_view, elements_of, expression_view, inline_view, inlines_of, maybe_arguments, named_view, nameds_of, pattern_view, variant_view, variants_of}
use Rattle.fluent_grammar.specs.Tree as t
use Rattle.fluent_ids.specs.IdsView.{ids_view}
use Rattle.std.proofs.Common.{option_map}
use Rattle.fluent_meaning.specs.Steps.{left, mapped}
use Rattle.fluent_meaning.specs.Substitution as s
use Rattle.fluent_meaning.specs.Told.{Finds, Writes}
use Rattle.fluent_meaning.specs.Weight.{arguments_weight, elements_weight, expression_weight, ids_weight, inline_weight, inlines_weight, maybe_arguments_weight, nameds_weight}
use Rattle.fluent_meaning.proofs.Weights.{target_weight}
use Rattle.fluent_progress.specs.Depth.{open_in}
use Rattle.fluent_progress.specs.Views.{entered_in, place_view, resolved_in, state, target_view}
use Rattle.fluent_value.specs.Args.{all_set}
use Rattle.fluent_value.specs.ArgsView.{args_view}
use Rattle.fluent_value.specs.View.{value_view}
use Rattle.std.specs.Prelude.{string_bytes}
use Rattle.fluent_resolver.proofs.+resolving.Given as goal

-- The elements before this one were written.
abbrev pub invariant-pattern::write_pattern-loop-element : goal.invariant-pattern::write_pattern-loop-element
invariant-pattern::write_pattern-loop-element g l =
    let env = resolved_in l.place in
    let whole = pattern_view _ (λ s. s.now) l.pattern in
    let before = elements_of (map (element_view _ (λ s. s.now)) (take l.element-index l.element-items)) in
    let here = place_view l.place l.initial.progress in
    record {
      wrote : Writes (string_bytes l.initial.out) (string_bytes l.out) (state l.initial.progress) (state l.progress) (λ b. s.elements_written env whole before here b);
      path : entered_in l.progress ≡ entered_in l.initial.progress;
      stack : open_in l.progress.stack ≡ open_in l.initial.progress.stack;
    }

-- The values of the arguments before this one were found.
abbrev pub invariant-arguments::positional_values-loop-argument : goal.invariant-arguments::positional_values-loop-argument
invariant-arguments::positional_values-loop-argument g l =
    let env = resolved_in l.place in
    let before = inlines_of (map (inline_view _ (λ s. s.now)) (take l.argument-index l.argument-items)) in
    let here = place_view l.place l.initial.progress in
    record {
      found : Finds (map (value_view g.C.FluentType.meaning) l.values.items) (state l.initial.progress) (state l.progress) (λ b. s.positional_found env before here b);
      path : entered_in l.progress ≡ entered_in l.initial.progress;
      stack : open_in l.progress.stack ≡ open_in l.initial.progress.stack;
    }

abbrev pub invariant-arguments::named_values-loop-argument : goal.invariant-arguments::named_values-loop-argument
invariant-arguments::named_values-loop-argument g l =
    let env = resolved_in l.place in
    let before = nameds_of (map (named_view _ (λ s. s.now)) (take l.argument-index l.argument-items)) in
    let here = place_view l.place l.initial.progress in
    record {
      found : Finds (args_view g.C.FluentType.meaning l.values) (state l.initial.progress) (state l.progress) (λ b. mapped (all_set []) (s.named_found env before here b));
      path : entered_in l.progress ≡ entered_in l.initial.progress;
      stack : open_in l.progress.stack ≡ open_in l.initial.progress.stack;
    }

-- What is left to do: placeables that may be opened count more than all patterns of the context, then the weight of what is
-- written, then the function.
abbrev pub decreases-pattern::write_pattern : goal.decreases-pattern::write_pattern
decreases-pattern::write_pattern g l =
    4 * (left (state l.progress.now).budget * suc (ids_weight (ids_view _ l.place.now.ids.now)) + elements_weight (pattern_view _ (λ s. s.now) l.pattern.now)) + 1

abbrev pub decreases-pattern::write_referred : goal.decreases-pattern::write_referred
decreases-pattern::write_referred g l =
    4 * (left (state l.progress.now).budget * suc (ids_weight (ids_view _ l.place.now.ids.now)) + elements_weight (pattern_view _ (λ s. s.now) l.pattern.now)) + 2

abbrev pub decreases-pattern::write_target : goal.decreases-pattern::write_target
decreases-pattern::write_target g l =
    4 * (left (state l.progress.now).budget * suc (ids_weight (ids_view _ l.place.now.ids.now)) + target_weight (target_view l.target)) + 3

abbrev pub decreases-pattern::write_placeable : goal.decreases-pattern::write_placeable
decreases-pattern::write_placeable g l =
    4 * (left (state l.progress.now).budget * suc (ids_weight (ids_view _ l.place.now.ids.now)) + expression_weight (expression_view _ (λ s. s.now) l.expression.now)) + 4

abbrev pub decreases-pattern::write_opened : goal.decreases-pattern::write_opened
decreases-pattern::write_opened g l =
    4 * (suc (left (state l.progress.now).budget) * suc (ids_weight (ids_view _ l.place.now.ids.now)) + expression_weight (expression_view _ (λ s. s.now) l.expression.now)) + 3

abbrev pub decreases-expression::write_expression : goal.decreases-expression::write_expression
decreases-expression::write_expression g l =
    4 * (suc (left (state l.progress.now).budget) * suc (ids_weight (ids_view _ l.place.now.ids.now)) + expression_weight (expression_view _ (λ s. s.now) l.expression.now)) + 2

abbrev pub decreases-expression::write_select : goal.decreases-expression::write_select
decreases-expression::write_select g l =
    4 * (suc (left (state l.progress.now).budget) * suc (ids_weight (ids_view _ l.place.now.ids.now)) + expression_weight (t.select (inline_view _ (λ s. s.now) l.selector.now) (variants_of (map (variant_view _ (λ s. s.now)) l.variants.now.items)))) + 1

abbrev pub decreases-expression::choose : goal.decreases-expression::choose
decreases-expression::choose g l =
    4 * (suc (left (state l.progress.now).budget) * suc (ids_weight (ids_view _ l.place.now.ids.now)) + expression_weight (t.select (inline_view _ (λ s. s.now) l.selector.now) (variants_of (map (variant_view _ (λ s. s.now)) l.variants.now.items)))) + 0

abbrev pub decreases-value::value_of : goal.decreases-value::value_of
decreases-value::value_of g l =
    4 * (suc (left (state l.progress.now).budget) * suc (ids_weight (ids_view _ l.place.now.ids.now)) + inline_weight (inline_view _ (λ s. s.now) l.inline.now)) + 3

abbrev pub decreases-value::text_value : goal.decreases-value::text_value
decreases-value::text_value g l =
    4 * (suc (left (state l.progress.now).budget) * suc (ids_weight (ids_view _ l.place.now.ids.now)) + inline_weight (inline_view _ (λ s. s.now) l.inline.now)) + 2

abbrev pub decreases-expression::write_inline : goal.decreases-expression::write_inline
decreases-expression::write_inline g l =
    4 * (suc (left (state l.progress.now).budget) * suc (ids_weight (ids_view _ l.place.now.ids.now)) + inline_weight (inline_view _ (λ s. s.now) l.inline.now)) + 1

abbrev pub decreases-expression::write_call : goal.decreases-expression::write_call
decreases-expression::write_call g l =
    4 * (suc (left (state l.progress.now).budget) * suc (ids_weight (ids_view _ l.place.now.ids.now)) + inline_weight (inline_view _ (λ s. s.now) l.inline.now)) + 0

abbrev pub decreases-expression::write_term : goal.decreases-expression::write_term
decreases-expression::write_term g l =
    4 * (suc (left (state l.progress.now).budget) * suc (ids_weight (ids_view _ l.place.now.ids.now)) + inline_weight (inline_view _ (λ s. s.now) l.inline.now)) + 0

abbrev pub decreases-arguments::call_result : goal.decreases-arguments::call_result
decreases-arguments::call_result g l =
    4 * (suc (left (state l.progress.now).budget) * suc (ids_weight (ids_view _ l.place.now.ids.now)) + arguments_weight (arguments_view _ (λ s. s.now) l.arguments.now)) + 1

abbrev pub decreases-arguments::nested_call : goal.decreases-arguments::nested_call
decreases-arguments::nested_call g l =
    4 * (suc (left (state l.progress.now).budget) * suc (ids_weight (ids_view _ l.place.now.ids.now)) + arguments_weight (arguments_view _ (λ s. s.now) l.arguments.now)) + 2

abbrev pub decreases-arguments::own_arguments : goal.decreases-arguments::own_arguments
decreases-arguments::own_arguments g l =
    4 * (suc (left (state l.progress.now).budget) * suc (ids_weight (ids_view _ l.place.now.ids.now)) + maybe_arguments_weight (maybe_arguments (option_map (arguments_view _ (λ s. s.now)) l.arguments.now))) + 1

abbrev pub decreases-arguments::positional_values : goal.decreases-arguments::positional_values
decreases-arguments::positional_values g l =
    4 * (suc (left (state l.progress.now).budget) * suc (ids_weight (ids_view _ l.place.now.ids.now)) + inlines_weight (inlines_of (map (inline_view _ (λ s. s.now)) l.arguments.now.items))) + 3

abbrev pub decreases-arguments::named_values : goal.decreases-arguments::named_values
decreases-arguments::named_values g l =
    4 * (suc (left (state l.progress.now).budget) * suc (ids_weight (ids_view _ l.place.now.ids.now)) + nameds_weight (nameds_of (map (named_view _ (λ s. s.now)) l.arguments.now.items))) + 3
