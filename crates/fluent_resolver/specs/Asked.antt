-- What a pattern gives a request, and which of its errors are reported.
use Rattle.std.specs.Prelude.{◌≡◌, List, ◌++◌, map, IfOk, IsSome, OnErr, OnOk, Option, None, Result, Some}
use Rattle.std.specs.Cow.{cow_str_bytes}
use Rattle.std.specs.Global.{Global}
use Rattle.std.specs.declared.borrow.CowStr.{CowStr}
use Rattle.std.specs.Global.{Vec}
use denote.Ref.{Bor}
use Rattle.fluent_ast.specs.View.{pattern_view}
use Rattle.fluent_ast.specs.declared.Pattern.{Pattern}
use Rattle.fluent_errors.specs.Errors.{Reported, Unresolved, unresolved}
use Rattle.fluent_errors.specs.View.{bundle_view}
use Rattle.fluent_errors.specs.declared.bundle.FluentError.{FluentError}
use Rattle.fluent_grammar.specs.Tree as t
use Rattle.fluent_grammar.specs.Tree.{Elements}
use Rattle.fluent_grammar.specs.Words.{Text}
use Rattle.fluent_meaning.specs.Environment.{Environment}
use Rattle.fluent_meaning.specs.Refused.{Begins}
use Rattle.fluent_meaning.specs.Steps.{Done}
use Rattle.fluent_meaning.specs.Substitution.{answer_handed, answer_written}
use Rattle.fluent_progress.specs.Views.{args_or_none, given_args}
use Rattle.fluent_value.specs.Shown.{shown_text}
use Rattle.fluent_value.specs.Value as v
use Rattle.fluent_value.specs.declared.args.FluentArgs.{FluentArgs}

-- the errors of a list
abbrev pub told : Vec FluentError → List Reported
told errors = map bundle_view errors.items

-- after the old errors stand those of an answer
abbrev pub TellsAll : {A : Type 0} → Vec FluentError → Vec FluentError → Done A → Type 0
TellsAll old new answer = told new ≡ told old ++ map unresolved answer.errors

-- after the old errors stand the first of an answer's
pub record TellsFirst {A : Type 0} (old new : Vec FluentError) (answer : Done A) : Type 0 where
  pub some : List Unresolved
  pub first : Begins some answer.errors
  pub errors : told new ≡ told old ++ map unresolved some

-- after what a writer held stands a beginning of an answer's text
pub record WritesFirst (held now : Text) (answer : Done Text) : Type 0 where
  pub written : Text
  pub first : Begins written answer.value
  pub text : now ≡ held ++ written

-- on Ok this is an answer's text
abbrev pub GivesText : {E : Type 0} → Result (CowStr Global) E → Done Text → Type 0
GivesText result answer = IfOk result (λ text. cow_str_bytes text ≡ answer.value)

-- on Ok an answer's errors are reported
abbrev pub ReportsAll : {A T E : Type 0} → Result T E → Vec FluentError → Vec FluentError → Done A → Type 0
ReportsAll result old new answer = OnOk result (TellsAll old new answer)

-- on Err the first of an answer's errors are reported
abbrev pub ReportsFirst : {A T E : Type 0} → Result T E → Vec FluentError → Vec FluentError → Done A → Type 0
ReportsFirst result old new answer = OnErr result (TellsFirst old new answer)

-- on Ok an answer's text stands after what a writer held
abbrev pub WritesWhole : {W T E : Type 0} → (W → Text) → Result T E → W → W → Done Text → Type 0
WritesWhole text result held now answer = OnOk result (text now ≡ text held ++ answer.value)

-- on Err a beginning of it does
abbrev pub WritesStart : {W T E : Type 0} → (W → Text) → Result T E → W → W → Done Text → Type 0
WritesStart text result held now answer = OnErr result (WritesFirst (text held) (text now) answer)

-- the text of a pattern that is one text
abbrev pub lone_text : Elements → Option Text
lone_text t.no_elements = None
lone_text (t.text s t.no_elements) = Some s
lone_text (t.text s (t.text r es)) = None
lone_text (t.text s (t.placeable e es)) = None
lone_text (t.placeable e es) = None

module _ {C S F : Type 0} (meaning : C → S) (env : Environment S F) (args : Option (Bor (FluentArgs C))) (pattern : Pattern (Bor Text)) where
  -- what a pattern writes for these arguments, or for none
  abbrev pub asked : Done Text
  asked = answer_written env (args_or_none meaning (given_args meaning args)) (pattern_view _ (λ s. s.now) pattern)

  -- what of it is returned: the complete text as a value is shown
  abbrev pub handed : Done Text
  handed = answer_handed env (args_or_none meaning (given_args meaning args)) (pattern_view _ (λ s. s.now) pattern)

-- the pattern is one text
abbrev pub IsText : Pattern (Bor Text) → Type 0
IsText pattern = IsSome (lone_text (pattern_view _ (λ s. s.now) pattern))

-- this is a text, as a value is shown
abbrev pub Shows : {S : Type 0} → (v.Value S → Option Text) → (S → Text) → CowStr Global → CowStr Global → Type 0
Shows formatted shown text out = cow_str_bytes out ≡ shown_text formatted shown (v.text (cow_str_bytes text))
