-- What the calls of a scope do, as steps of resolving: each from where the scope is, in what its bundle holds.
use Rattle.std.specs.Prelude.{IfOk, OnErr, OnOk, Option, Result, String, option_copied, string_bytes}
use Rattle.std.specs.Global.{Global, Vec}
use denote.Ref.{Bor}
use Rattle.fluent_resolver.specs.Called.{called_of}
use Rattle.fluent_ast.specs.Borrowed.{elements_of, expression_of, inline_of, maybe_arguments_of}
use Rattle.fluent_ast.specs.declared.CallArguments.{CallArguments}
use Rattle.fluent_ast.specs.declared.Expression.{Expression}
use Rattle.fluent_ast.specs.declared.InlineExpression.{InlineExpression}
use Rattle.fluent_ast.specs.declared.Pattern.{Pattern}
use Rattle.fluent_errors.specs.Errors.{unknown}
use Rattle.fluent_errors.specs.View.{reference_view}
use Rattle.fluent_errors.specs.declared.reference.ReferenceKind.{ReferenceKind}
use Rattle.fluent_grammar.specs.Tree.{MaybeArguments}
use Rattle.fluent_grammar.specs.Words.{Text}
use Rattle.fluent_meaning.specs.Environment.{Environment}
use Rattle.fluent_meaning.specs.Refused as refused
use Rattle.fluent_meaning.specs.Fallback.{braced, inline_fallback}
use Rattle.fluent_meaning.specs.Steps.{Budget, Done, faulty}
use Rattle.fluent_meaning.specs.Substitution as s
use Rattle.fluent_meaning.specs.Told as told
use Rattle.fluent_value.specs.declared.args.FluentArgs.{FluentArgs}
use Rattle.fluent_value.specs.declared.custom.FluentType.{Ghosts as Custom}
use Rattle.fluent_value.specs.declared.formatter.ValueFormatter.{Ghosts as Formatter}
use Rattle.fluent_value.specs.declared.function.FluentFunction.{Ghosts as Function}
use Rattle.fluent_value.specs.declared.plurals.MemoizerKind.{Ghosts as PluralSource}
use Rattle.fluent_value.specs.declared.value.FluentValue.{FluentValue}
use Rattle.fluent_bundle.specs.BundleView.{environment_of}
use Rattle.fluent_bundle.specs.ScopeView.{place_of, state_of}
use Rattle.fluent_bundle.specs.declared.resolver.scope.Scope.{Scope}

-- the arguments of a call, or none
abbrev pub given_arguments : Option (Bor (CallArguments (Bor Text))) → MaybeArguments
given_arguments arguments = maybe_arguments_of (option_copied arguments)

module _ {M C F G T S : Type 0} {m : PluralSource M} {c : Custom C S} {f : Function F C S} {g : Formatter G C M S} where
  -- what the patterns of a scope's bundle are resolved in
  abbrev pub environment_in : (T → Text → Text) → Scope M C F G T S m c f g → Environment S F
  environment_in t scope = environment_of t scope.bundle.now

  -- the inside of a placeable that the caller opened: no marks stand around it, and it isn't counted
  abbrev pub inside : (T → Text → Text) → Pattern (Bor Text) → Expression (Bor Text) → Scope M C F G T S m c f g → Budget → Done Text
  inside t pattern expression scope =
      s.unmarked_written (environment_in t scope) (elements_of pattern) (expression_of expression) (place_of scope)

  -- a pattern that an expression refers to
  abbrev pub reference : (T → Text → Text) → InlineExpression (Bor Text) → Pattern (Bor Text) → Scope M C F G T S m c f g → Budget → Done Text
  reference t inline pattern scope =
      s.reference_written (environment_in t scope) (inline_of inline) (elements_of pattern) (place_of scope)

  -- an expression whose reference, if it has one, leads nowhere
  abbrev pub unknown_reference : (T → Text → Text) → InlineExpression (Bor Text) → Scope M C F G T S m c f g → Budget → Done Text
  unknown_reference t inline scope = s.missed_written (environment_in t scope) (inline_of inline)

  -- the fallback of an expression in braces, with the error that what it refers to is unknown
  abbrev pub fallback : ReferenceKind → InlineExpression (Bor Text) → Scope M C F G T S m c f g → Budget → Done Text
  fallback kind inline scope = faulty (braced (inline_fallback (inline_of inline))) (unknown (reference_view kind))

  -- the values of a call's arguments
  abbrev pub call_arguments : (T → Text → Text) → MaybeArguments → Scope M C F G T S m c f g → Budget → Done (s.Called S)
  call_arguments t args scope = s.arguments_found (environment_in t scope) args (place_of scope)

  -- the same, by those of the code
  abbrev pub argument_values : (T → Text → Text) → Option (Bor (CallArguments (Bor Text))) → Scope M C F G T S m c f g → Budget → Done (s.Called S)
  argument_values t arguments = call_arguments t (given_arguments arguments)

  module _ {X E : Type 0} (result : Result X E) (old new : Scope M C F G T S m c f g) where
    -- on Err the first errors of a step were reported
    abbrev pub TellsSome : {A : Type 0} → (Scope M C F G T S m c f g → Budget → Done A) → Type 0
    TellsSome step = OnErr result (refused.TellsSome (state_of old) (state_of new) (step old (state_of old).budget))

  module _ {W X E : Type 0} (text : W → Text) (result : Result X E) (held now : W) (old new : Scope M C F G T S m c f g) (step : Scope M C F G T S m c f g → Budget → Done Text) where
    -- on Ok a step was made whole: its text is after what a writer held, and its errors after those of the scope
    abbrev pub Writes : Type 0
    Writes = OnOk result (told.Writes (text held) (text now) (state_of old) (state_of new) (step old))

    -- on Err it was broken off: after what a writer held stands a beginning of its text, and its first errors were reported
    abbrev pub Starts : Type 0
    Starts = OnErr result (refused.WritesSome (text held) (text now) (state_of old) (state_of new) (step old))

  -- on Ok a step was made whole after what a string held
  abbrev pub WritesText : {X E : Type 0} → Result X E → String Global → String Global → Scope M C F G T S m c f g → Scope M C F G T S m c f g → (Scope M C F G T S m c f g → Budget → Done Text) → Type 0
  WritesText result held now old new step = Writes string_bytes result held now old new step

  -- on Ok the values of arguments were found by a step that was made whole
  abbrev pub FindsArguments : {E : Type 0} → Result (Vec (FluentValue C) × FluentArgs C) E → Scope M C F G T S m c f g → Scope M C F G T S m c f g → (Scope M C F G T S m c f g → Budget → Done (s.Called S)) → Type 0
  FindsArguments result old new step =
      IfOk result (λ found. told.Finds (called_of c.meaning found) (state_of old) (state_of new) (step old))
