-- What the functions of resolving write and find, each as a step of the definitions at a place.
use Rattle.std.specs.Prelude.{[], List, Option, option_map}
use Rattle.std.specs.Global.{Vec}
use Rattle.fluent_ast.specs.Borrowed.{arguments_of, elements_of, expression_of, inline_of, maybe_arguments_of, name_of, named_of, positional_of, variants_of}
use Rattle.fluent_ast.specs.declared.CallArguments.{CallArguments}
use Rattle.fluent_ast.specs.declared.Expression.{Expression}
use Rattle.fluent_ast.specs.declared.Identifier.{Identifier}
use Rattle.fluent_ast.specs.declared.InlineExpression.{InlineExpression}
use Rattle.fluent_ast.specs.declared.NamedArgument.{NamedArgument}
use Rattle.fluent_ast.specs.declared.Pattern.{Pattern}
use Rattle.fluent_ast.specs.declared.Variant.{Variant}
use Rattle.fluent_grammar.specs.Tree as t
use Rattle.fluent_grammar.specs.Words.{Text}
use Rattle.fluent_meaning.specs.Choice.{chosen}
use Rattle.fluent_meaning.specs.Steps.{Budget, Done, entering, mapped, may_open}
use Rattle.fluent_meaning.specs.Substitution as s
use Rattle.fluent_progress.specs.Results.{function_result}
use Rattle.fluent_progress.specs.Views.{place_view, resolved_in, start_of, target_view}
use Rattle.fluent_progress.specs.declared.context.Context.{Ghosts as Context}
use Rattle.fluent_progress.specs.declared.place.Surroundings.{Surroundings}
use Rattle.fluent_progress.specs.declared.progress.Progress.{Progress}
use Rattle.fluent_progress.specs.declared.target.Target.{Target}
use Rattle.fluent_value.specs.Args.{all_set}
use Rattle.fluent_value.specs.Value as value
use Rattle.fluent_value.specs.Value.{Value}
use Rattle.fluent_value.specs.declared.custom.FluentType.{Ghosts as Custom}
use Rattle.fluent_value.specs.declared.scope.ValueScope.{Ghosts as Scope}
use denote.Ref.{Bor}

-- a call of a function, before its arguments are resolved
abbrev pub call_of : Identifier (Bor Text) → CallArguments (Bor Text) → t.Inline
call_of id arguments = t.function_reference (name_of id) (arguments_of arguments)

-- a reference to a term
abbrev pub term_reference_of : Identifier (Bor Text) → Option (Identifier (Bor Text)) → Option (CallArguments (Bor Text)) → t.Inline
term_reference_of id attribute arguments = t.term_reference (name_of id) (option_map name_of attribute) (maybe_arguments_of arguments)

module _ {C F E S : Type 0} {c : Custom C S} {e : Context E C F S} {v : Scope E C S} (place : Surroundings C F E S c e v) where
  -- what a pattern gives, if nothing was resolved before
  abbrev pub answer : Pattern (Bor Text) → Done Text
  answer pattern = entering (s.pattern_written (resolved_in place) (elements_of pattern) (start_of place) (may_open s.most_placeables))

  -- a pattern is written
  abbrev pub pattern_step : Pattern (Bor Text) → Progress → Budget → Done Text
  pattern_step pattern progress = s.pattern_written (resolved_in place) (elements_of pattern) (place_view place progress)

  -- a placeable of a pattern is written
  abbrev pub placeable : Pattern (Bor Text) → Expression (Bor Text) → Progress → Budget → Done Text
  placeable whole expression progress = s.placeable_written (resolved_in place) (elements_of whole) (expression_of expression) (place_view place progress)

  -- the inside of a placeable is written: what stands between its isolation marks, once it is counted
  abbrev pub inside : Pattern (Bor Text) → Expression (Bor Text) → Progress → Budget → Done Text
  inside whole expression progress = s.unmarked_written (resolved_in place) (elements_of whole) (expression_of expression) (place_view place progress)

  -- what a reference means is written
  abbrev pub outcome : InlineExpression (Bor Text) → Target → Progress → Budget → Done Text
  outcome inline target progress = s.target_written (resolved_in place) (s.pattern_written (resolved_in place)) (inline_of inline) (target_view target) (place_view place progress)

  -- a pattern that an expression refers to is written
  abbrev pub reference : InlineExpression (Bor Text) → Pattern (Bor Text) → Progress → Budget → Done Text
  reference inline pattern progress = s.reference_written (resolved_in place) (inline_of inline) (elements_of pattern) (place_view place progress)

  -- an expression is written
  abbrev pub expression_step : Expression (Bor Text) → Progress → Budget → Done Text
  expression_step expression progress = s.expression_written (resolved_in place) (expression_of expression) (place_view place progress)

  -- a select is written
  abbrev pub select : InlineExpression (Bor Text) → Vec (Variant (Bor Text)) → Progress → Budget → Done Text
  select selector variants progress = s.expression_written (resolved_in place) (t.select (inline_of selector) (variants_of variants.items)) (place_view place progress)

  -- an inline expression is written
  abbrev pub inline_step : InlineExpression (Bor Text) → Progress → Budget → Done Text
  inline_step inline progress = s.inline_written (resolved_in place) (inline_of inline) (place_view place progress)

  -- the text of an inline expression is found, as a value
  abbrev pub text_step : InlineExpression (Bor Text) → Progress → Budget → Done (Value S)
  text_step inline progress = λ b. mapped value.text (s.inline_written (resolved_in place) (inline_of inline) (place_view place progress) b)

  -- the value of an inline expression is found
  abbrev pub value_step : InlineExpression (Bor Text) → Progress → Budget → Done (Value S)
  value_step inline progress = s.value_found (resolved_in place) (inline_of inline) (place_view place progress)

  -- the variant of a select is chosen
  abbrev pub choice_step : InlineExpression (Bor Text) → Vec (Variant (Bor Text)) → Progress → Budget → Done (Option t.Elements)
  choice_step selector variants progress =
      λ b. mapped (λ x. chosen (resolved_in place).plurals x (variants_of variants.items)) (s.value_found (resolved_in place) (inline_of selector) (place_view place progress) b)

  -- the values of positional arguments are found
  abbrev pub positional_step : Vec (InlineExpression (Bor Text)) → Progress → Budget → Done (List (Value S))
  positional_step arguments progress = s.positional_found (resolved_in place) (positional_of arguments.items) (place_view place progress)

  -- the values of named arguments are found: of a name that comes twice the last one
  abbrev pub named_step : Vec (NamedArgument (Bor Text)) → Progress → Budget → Done (List (Text × Value S))
  named_step arguments progress = λ b. mapped (all_set []) (s.named_found (resolved_in place) (named_of arguments.items) (place_view place progress) b)

  -- the values of a call's arguments are found
  abbrev pub arguments_step : CallArguments (Bor Text) → Progress → Budget → Done (s.Called S)
  arguments_step arguments progress = s.arguments_found (resolved_in place) (t.with_arguments (arguments_of arguments)) (place_view place progress)

  -- the named arguments of a term reference are found
  abbrev pub own_step : Option (CallArguments (Bor Text)) → Progress → Budget → Done (List (Text × Value S))
  own_step arguments progress = λ b. mapped (λ called. called.named) (s.arguments_found (resolved_in place) (maybe_arguments_of arguments) (place_view place progress) b)

  -- what the function of an id gives is found, after its arguments
  abbrev pub call_step : Identifier (Bor Text) → CallArguments (Bor Text) → Progress → Budget → Done (Option (Value S))
  call_step id arguments progress =
      λ b. mapped (λ called. function_result (resolved_in place) ((resolved_in place).find (name_of id)) called.positional called.named) (s.arguments_found (resolved_in place) (t.with_arguments (arguments_of arguments)) (place_view place progress) b)
