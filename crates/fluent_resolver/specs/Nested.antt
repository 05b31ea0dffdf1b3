-- How many bytes of the machine's stack the functions of resolving take at some place of what they resolve.
use Rattle.std.specs.Prelude.{ℕ, Option}
use Rattle.std.specs.Global.{Vec}
use Rattle.fluent_ast.specs.Borrowed.{arguments_of, elements_of, expression_of, inline_of, maybe_arguments_of, named_of, positional_of, variants_of}
use Rattle.fluent_ast.specs.declared.CallArguments.{CallArguments}
use Rattle.fluent_ast.specs.declared.Expression.{Expression}
use Rattle.fluent_ast.specs.declared.InlineExpression.{InlineExpression}
use Rattle.fluent_ast.specs.declared.NamedArgument.{NamedArgument}
use Rattle.fluent_ast.specs.declared.Pattern.{Pattern}
use Rattle.fluent_ast.specs.declared.Variant.{Variant}
use Rattle.fluent_grammar.specs.Tree as t
use Rattle.fluent_grammar.specs.Words.{Text}
use Rattle.fluent_meaning.specs.Substitution.{rooted_path, there}
use Rattle.fluent_progress.specs.Nesting.{TakesArguments, TakesCall, TakesExpression, TakesInline, TakesInlines, TakesMaybe, TakesNameds, TakesPattern, TakesTarget, TakesText, TakesValue}
use Rattle.fluent_progress.specs.Views.{path_of, resolved_in, target_view}
use Rattle.fluent_progress.specs.declared.context.Context.{Ghosts as Context}
use Rattle.fluent_progress.specs.declared.place.Surroundings.{Surroundings}
use Rattle.fluent_progress.specs.declared.progress.Progress.{Progress}
use Rattle.fluent_progress.specs.declared.target.Target.{Target}
use Rattle.fluent_value.specs.declared.custom.FluentType.{Ghosts as Custom}
use Rattle.fluent_value.specs.declared.scope.ValueScope.{Ghosts as Scope}
use denote.Ref.{Bor}

module _ {C F E S : Type 0} {c : Custom C S} {e : Context E C F S} {v : Scope E C S} (place : Surroundings C F E S c e v) where
  -- a pattern, a placeable of it, and what a reference means
  abbrev pub pattern_takes : Pattern (Bor Text) → Progress → ℕ → Type 0
  pattern_takes pattern progress = TakesPattern (resolved_in place).find (path_of progress) (elements_of pattern)

  abbrev pub placeable_takes : Pattern (Bor Text) → Expression (Bor Text) → Progress → ℕ → Type 0
  placeable_takes whole expression progress = TakesExpression (resolved_in place).find (rooted_path (elements_of whole) (path_of progress)) (expression_of expression)

  abbrev pub outcome_takes : Target → Progress → ℕ → Type 0
  outcome_takes target progress = TakesTarget (resolved_in place).find (path_of progress) (target_view target)

  abbrev pub reference_takes : Pattern (Bor Text) → Progress → ℕ → Type 0
  reference_takes pattern progress = TakesTarget (resolved_in place).find (path_of progress) (there (elements_of pattern))

  -- an expression, and a select
  abbrev pub expression_takes : Expression (Bor Text) → Progress → ℕ → Type 0
  expression_takes expression progress = TakesExpression (resolved_in place).find (path_of progress) (expression_of expression)

  abbrev pub select_takes : InlineExpression (Bor Text) → Vec (Variant (Bor Text)) → Progress → ℕ → Type 0
  select_takes selector variants progress = TakesExpression (resolved_in place).find (path_of progress) (t.select (inline_of selector) (variants_of variants.items))

  -- an inline expression that is written, one that is a value, and one whose text is
  abbrev pub inline_takes : InlineExpression (Bor Text) → Progress → ℕ → Type 0
  inline_takes inline progress = TakesInline (resolved_in place).find (path_of progress) (inline_of inline)

  abbrev pub value_takes : InlineExpression (Bor Text) → Progress → ℕ → Type 0
  value_takes inline progress = TakesValue (resolved_in place).find (path_of progress) (inline_of inline)

  abbrev pub text_takes : InlineExpression (Bor Text) → Progress → ℕ → Type 0
  text_takes inline progress = TakesText (resolved_in place).find (path_of progress) (inline_of inline)

  -- a call that is a value, by its arguments, and arguments
  abbrev pub call_takes : CallArguments (Bor Text) → Progress → ℕ → Type 0
  call_takes arguments progress = TakesCall (resolved_in place).find (path_of progress) (arguments_of arguments)

  abbrev pub arguments_take : CallArguments (Bor Text) → Progress → ℕ → Type 0
  arguments_take arguments progress = TakesArguments (resolved_in place).find (path_of progress) (arguments_of arguments)

  abbrev pub own_take : Option (CallArguments (Bor Text)) → Progress → ℕ → Type 0
  own_take arguments progress = TakesMaybe (resolved_in place).find (path_of progress) (maybe_arguments_of arguments)

  abbrev pub positional_take : Vec (InlineExpression (Bor Text)) → Progress → ℕ → Type 0
  positional_take arguments progress = TakesInlines (resolved_in place).find (path_of progress) (positional_of arguments.items)

  abbrev pub named_take : Vec (NamedArgument (Bor Text)) → Progress → ℕ → Type 0
  named_take arguments progress = TakesNameds (resolved_in place).find (path_of progress) (named_of arguments.items)
