-- What a call leaves: what it wrote or found, and which errors it reported.
use Rattle.std.specs.Prelude.{◌≡◌, ◌++◌, Result, IfOk, OnErr, OnOk, String, string_bytes}
use Rattle.std.specs.Global.{Global}
use Rattle.fluent_ast.specs.Borrowed.{inline_of}
use Rattle.fluent_ast.specs.declared.InlineExpression.{InlineExpression}
use Rattle.fluent_errors.specs.View.{resolver_view}
use Rattle.fluent_errors.specs.declared.resolver.ResolverError.{ResolverError}
use Rattle.fluent_grammar.specs.Words.{Text}
use Rattle.fluent_meaning.specs.Fallback.{braced, inline_fallback}
use Rattle.fluent_meaning.specs.Refused.{TellsSome}
use Rattle.fluent_meaning.specs.Steps.{Budget, Done, faulty}
use Rattle.fluent_meaning.specs.Told as told
use Rattle.fluent_progress.specs.Views.{state}
use Rattle.fluent_progress.specs.declared.progress.Progress.{Progress}
use denote.Ref.{Bor}

-- on Ok this text stands after what was there before
abbrev pub Appends : {T E : Type 0} → Result T E → String Global → String Global → Text → Type 0
Appends result old new text = OnOk result (string_bytes new ≡ string_bytes old ++ text)

-- on Ok the step was written after what was there before
abbrev pub Writes : {T E : Type 0} → Result T E → String Global → String Global → Progress → Progress → (Progress → Budget → Done Text) → Type 0
Writes result held now old new step = OnOk result (told.Writes (string_bytes held) (string_bytes now) (state old) (state new) (step old))

-- on Ok what the step finds is in the result
abbrev pub FindsOnOk : {T E V : Type 0} → (T → V) → Result T E → Progress → Progress → (Progress → Budget → Done V) → Type 0
FindsOnOk view result old new step = IfOk result (λ found. told.Finds (view found) (state old) (state new) (step old))

-- on Err the first of the step's errors are reported
abbrev pub TellsOnErr : {A T E : Type 0} → Result T E → Progress → Progress → (Progress → Budget → Done A) → Type 0
TellsOnErr result old new step = OnErr result (TellsSome (state old) (state new) (step old (state old).budget))

-- an error is reported, and the fallback of an expression is written in braces
abbrev pub fallback_step : InlineExpression (Bor Text) → ResolverError → Progress → Budget → Done Text
fallback_step inline error progress = faulty (braced (inline_fallback (inline_of inline))) (resolver_view error)
