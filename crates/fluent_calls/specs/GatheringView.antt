-- What the code gathers, as plain data.
use Rattle.std.specs.Prelude.{◌≡◌, Bool, true, false, List, [], ◌++◌, Option, None, Some, IfOk, OnOk, Result, String, option_map, string_bytes}
use Rattle.std.specs.Global.{Vec}
use Rattle.std.specs.declared.alloc.Global.{Global}
use denote.Ref.{Bor}
use Rattle.fluent_ast.specs.Borrowed.{expression_of, inline_of, elements_of, positional_of}
use Rattle.fluent_ast.specs.declared.Expression.{Expression}
use Rattle.fluent_ast.specs.declared.InlineExpression.{InlineExpression}
use Rattle.fluent_ast.specs.declared.Pattern.{Pattern}
use Rattle.fluent_grammar.specs.Tree as t
use Rattle.fluent_grammar.specs.Words.{Text}
use Rattle.fluent_meaning.specs.Steps.{Budget}
use Rattle.fluent_progress.specs.Views.{arguments_of, path_of, resolved_in, state}
use Rattle.fluent_progress.specs.declared.context.Context.{Ghosts as Context}
use Rattle.fluent_progress.specs.declared.place.Surroundings.{Surroundings}
use Rattle.fluent_progress.specs.declared.progress.Progress.{Progress}
use Rattle.fluent_resolver.specs.Steps.{inside}
use Rattle.fluent_run.specs.Dated.{dated_view}
use Rattle.fluent_run.specs.Listing.{lines}
use Rattle.fluent_value.specs.Value.{Value}
use Rattle.fluent_value.specs.declared.args.FluentArgs.{FluentArgs}
use Rattle.fluent_value.specs.declared.custom.FluentType.{Ghosts as Custom}
use Rattle.fluent_value.specs.declared.scope.ValueScope.{Ghosts as Scope}
use Rattle.fluent_value.specs.declared.value.FluentValue.{FluentValue}
use Rattle.fluent_calls.specs.CallValues.{plain, plain_all}
use Rattle.fluent_calls.specs.Gathering.{AreGathered, Gathers, is_plain, is_plain_expression}
use Rattle.fluent_calls.specs.Gathering as of
use Rattle.fluent_calls.specs.declared.calls.Calls.{Calls}
use Rattle.fluent_date.specs.declared.date_time.FluentDateTime.{FluentDateTime}
use Rattle.fluent_dates.specs.declared.value.DateTimeValue.{DateTimeValue}
use Rattle.fluent_calls.specs.declared.callee.Callee.{Callee}

-- the plain expression that a placeable holds, if it is a plain one
abbrev pub IsPlainIn : Expression (Bor Text) → Option (Bor (InlineExpression (Bor Text))) → Type 0
IsPlainIn expression None = is_plain_expression (expression_of expression) ≡ false
IsPlainIn expression (Some inline) = (expression_of expression ≡ t.inline (inline_of inline.now)) × (is_plain (inline_of inline.now) ≡ true)

-- on Ok lines of these calls stand after what was there before
abbrev pub Gathered : {T X : Type 0} → Result T X → String Global → String Global → List Text → Type 0
Gathered result old new calls = OnOk result (string_bytes new ≡ string_bytes old ++ lines calls)

-- on Ok this value is given, if one is known
abbrev pub GivesValue : {X : Type 0} → Result (Option (FluentValue DateTimeValue)) X → Option (Value FluentDateTime) → Type 0
GivesValue result value = IfOk result (λ given. option_map plain given ≡ value)

-- the same for several values
abbrev pub GivesValues : {X : Type 0} → Result (Option (Vec (FluentValue DateTimeValue))) X → Option (List (Value FluentDateTime)) → Type 0
GivesValues result values = IfOk result (λ given. option_map (λ vs. plain_all vs.items) given ≡ values)

module _ {E : Type 0} {c : Custom DateTimeValue FluentDateTime} {e : Context E DateTimeValue Callee FluentDateTime} {v : Scope E DateTimeValue FluentDateTime} (place : Surroundings DateTimeValue Callee E FluentDateTime c e v) where
  -- the arguments of the request
  abbrev pub arguments_in : List (Text × Value FluentDateTime)
  arguments_in = arguments_of place

  module _ (answers : FluentArgs DateTimeValue) where
    -- what a call gives, if it is known, and the call itself if it has no answer
    abbrev pub result : Text → List (FluentValue DateTimeValue) → FluentArgs DateTimeValue → Option (Value FluentDateTime)
    result id positional named = of.result (resolved_in place).find arguments_in (dated_view answers) id (plain_all positional) (dated_view named) ((resolved_in place).find id)

    abbrev pub unanswered : Text → List (FluentValue DateTimeValue) → FluentArgs DateTimeValue → List Text
    unanswered id positional named = of.unanswered (resolved_in place).find arguments_in (dated_view answers) id (plain_all positional) (dated_view named) ((resolved_in place).find id)

    -- the value of an expression, if it is known, and the calls that it lacks
    abbrev pub known : t.Inline → Option (Value FluentDateTime)
    known inline = of.known (resolved_in place).find arguments_in (dated_view answers) inline

    abbrev pub lacking : t.Inline → List Text
    lacking inline = of.lacking (resolved_in place).find arguments_in (dated_view answers) inline

    -- the same of several expressions of the code
    abbrev pub all_known : List (InlineExpression (Bor Text)) → Option (List (Value FluentDateTime))
    all_known inlines = of.all_known (resolved_in place).find arguments_in (dated_view answers) (positional_of inlines)

    abbrev pub all_lacking : List (InlineExpression (Bor Text)) → List Text
    all_lacking inlines = of.all_lacking (resolved_in place).find arguments_in (dated_view answers) (positional_of inlines)

    abbrev pub GathersOf : t.Elements → t.Elements → Progress → List Text → Type 0
    GathersOf whole left progress calls = Gathers (resolved_in place) arguments_in (dated_view answers) whole left (state progress).budget calls

    -- these lines are of the calls that are gathered of the code's pattern
    abbrev pub AreGatheredOf : Pattern (Bor Text) → String Global → Type 0
    AreGatheredOf pattern text = AreGathered (resolved_in place) arguments_in (dated_view answers) (elements_of pattern) (string_bytes text)

  -- what the inside of a placeable leaves of the budget
  abbrev pub left_by : Pattern (Bor Text) → Expression (Bor Text) → Progress → Budget
  left_by whole expression progress = (inside place whole expression progress (state progress).budget).budget

  module _ {K : Type 0} (functions : Calls K) (whole : Pattern (Bor Text)) (expression : Expression (Bor Text)) (old new : Progress) (held now : String Global) where
    -- lines of some calls were added, and what comes after this placeable is gathered after them, in no other pattern
    pub record GoesOn : Type 0 where
      pub calls : List Text
      pub text : string_bytes now ≡ string_bytes held ++ lines calls
      pub gathers : (es : t.Elements) (rest : List Text) → GathersOf functions.answers.now (elements_of whole) es new rest →
          GathersOf functions.answers.now (elements_of whole) (t.placeable (expression_of expression) es) old (calls ++ rest)
      pub path : path_of new ≡ []

    -- lines of some calls were added, and what comes after this placeable isn't gathered
    pub record Ends : Type 0 where
      pub calls : List Text
      pub text : string_bytes now ≡ string_bytes held ++ lines calls
      pub gathers : (es : t.Elements) → GathersOf functions.answers.now (elements_of whole) (t.placeable (expression_of expression) es) old calls

    -- by the answer whether it goes on
    abbrev pub Placed : Bool → Type 0
    Placed true = GoesOn
    Placed false = Ends

    abbrev pub Puts : {X : Type 0} → Result Bool X → Type 0
    Puts result = IfOk result Placed
