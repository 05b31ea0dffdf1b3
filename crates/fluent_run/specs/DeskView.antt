-- What lines are answered from, as plain data.
use Rattle.std.specs.Prelude.{◌≡◌, Bool, List, [], ◌∷◌, Option, Some, None, map, option_copied, option_map}
use denote.Ref.{Bor}
use Rattle.fluent_answers.specs.Answers.{line_from, pattern_asked, told}
use Rattle.fluent_answers.specs.Sources as plain
use Rattle.fluent_answers.specs.Sources.{formatted_in}
use Rattle.fluent_ast.specs.View.{pattern_view}
use Rattle.fluent_ast.specs.declared.Pattern.{Pattern}
use Rattle.fluent_run.specs.ResourceIds.{all_by_id}
use Rattle.fluent_grammar.specs.Tree.{Elements}
use Rattle.fluent_grammar.specs.Words.{Text}
use Rattle.fluent_ids.specs.Found.{message_in}
use Rattle.fluent_ids.specs.IdsView.{ids_view}
use Rattle.fluent_ids.specs.declared.ids.FluentIds.{FluentIds}
use Rattle.fluent_meaning.specs.Environment.{Environment}
use Rattle.fluent_meaning.specs.Ids.{Ids, find, number_pair, with_ids}
use Rattle.fluent_meaning.specs.Steps.{Done}
use Rattle.fluent_meaning.specs.Substitution.{answer_written}
use Rattle.fluent_serve.specs.Frames.{Answer, Reply, bad, frame_of, ok}
use Rattle.fluent_numerals.specs.Views.{locale_view}
use Rattle.fluent_resource.specs.declared.resource.FluentResource.{FluentResource}
use Rattle.fluent_run.specs.Listing.{attribute_lines, message_lines}
use Rattle.fluent_run.specs.declared.desk.Desk.{Desk}
use Rattle.fluent_run.specs.declared.reply.Reply as code
use Rattle.fluent_run.specs.ReplyView.{reply_view}
use Rattle.fluent_run.specs.RunView.{no_text, settings_view}
use Rattle.fluent_run.specs.declared.caller.Asking.{Asking}
use Rattle.fluent_run.specs.declared.settings.Settings.{Settings}
use Rattle.fluent_serve.specs.RequestView.{arguments_behind}
use Rattle.fluent_text.specs.declared.stack.StackBudget.{StackBudget}
use Rattle.fluent_value.specs.Args.{all_set, with_argument}
use Rattle.fluent_value.specs.ArgsView.{args_view}
use Rattle.fluent_value.specs.Matching.{Plurals}
use Rattle.fluent_value.specs.Value.{Value, error, number_or_text}
use Rattle.fluent_value.specs.declared.args.FluentArgs.{FluentArgs}
use Rattle.fluent_value.specs.declared.custom.NoCustom.{NoCustom}
use Rattle.fluent_value.specs.declared.function.NoFunction.{NoFunction}
use Rattle.fluent_value.specs.declared.plurals.MemoizerKind.{Ghosts as KindGhosts}

-- the ids of resources: `NUMBER` stands first, then their messages and terms come, one resource after the other
abbrev pub ids_added : {F : Type 0} → Bool → List FluentResource → Ids F
ids_added overriding resources = with_ids overriding (number_pair ∷ []) (all_by_id resources)

-- what ids stand for
abbrev pub plain_ids : {F : Type 0} → FluentIds F → Ids F
plain_ids {F} ids = ids_view F ids

-- what the ids of a desk stand for
abbrev pub desk_ids : {M F : Type 0} → Desk M F → Ids F
desk_ids desk = plain_ids desk.ids

-- what a desk is made of
pub record IsMadeOf {M F : Type 0} (stood : Ids F) (read : List FluentResource) (asked : Settings) (rules : M) (budget : StackBudget) (desk : Desk M F) : Type 0 where
  pub ids : desk_ids desk ≡ stood
  pub resources : desk.resources.now ≡ read
  pub settings : desk.settings ≡ asked
  pub plurals : desk.plurals.now ≡ rules
  pub stack : desk.stack ≡ budget

-- it answers by the ids of these resources
abbrev pub IsMadeFrom : {M F : Type 0} → List FluentResource → Settings → M → StackBudget → Desk M F → Type 0
IsMadeFrom read asked rules budget = IsMadeOf (ids_added asked.overriding read) read asked rules budget

-- a line for each message of a desk
abbrev pub messages_in : {M F : Type 0} → Desk M F → Text
messages_in desk = message_lines (find (desk_ids desk)) (all_by_id desk.resources.now)

-- a line for each attribute of a message of a desk, if there is one of the id
abbrev pub attributes_in : {M F : Type 0} → Desk M F → Text → Option Text
attributes_in desk id = attribute_lines (message_in (find (desk_ids desk) id))

-- the elements of a pattern
abbrev pub elements_of : Pattern (Bor Text) → Elements
elements_of pattern = pattern_view _ (λ s. s.now) pattern

-- the elements of a pattern that may be absent
abbrev pub elements_found : Option (Bor (Pattern (Bor Text))) → Option Elements
elements_found found = option_map (λ p. elements_of p.now) found

-- the values of a request by their names
abbrev pub arguments_view : FluentArgs NoCustom → List (Text × Value (Unit {0}))
arguments_view args = args_view (λ c. tt) args

-- an argument of a line with its value: the number that its text is, or else the text
abbrev pub valued : Text × Text → Text × Value (Unit {0})
valued pair = (pair.0, number_or_text pair.1)

-- the values of arguments of a line by their names, the last of a name counting
abbrev pub values_by_name : List (Text × Text) → List (Text × Value (Unit {0}))
values_by_name pairs = all_set [] (map valued pairs)

-- the values of the arguments after a line's first tab, if each part there is one
abbrev pub values_behind : Option (Bor Text) → Option (List (Text × Value (Unit {0})))
values_behind rest = option_map values_by_name (arguments_behind rest)

-- an argument was set to the value of a text
abbrev pub IsSetTo : Text → Text → FluentArgs NoCustom → FluentArgs NoCustom → Type 0
IsSetTo name text old new = arguments_view new ≡ with_argument name (number_or_text text) (arguments_view old)

-- what a message gives for these arguments: its value, or its first attribute of a name
abbrev pub message_reply : {S F : Type 0} → Environment S F → Text → Option Text → List (Text × Value S) → Option Reply
message_reply env id attribute args = option_map (λ es. told (answer_written env args es)) (pattern_asked attribute (env.find id))

-- what functions give, for positional values and named arguments
abbrev pub Gives : Type 0 → Type 0
Gives F = F → List (Value (Unit {0})) → List (Text × Value (Unit {0})) → Value (Unit {0})

-- functions that give an error
abbrev pub gives_error : {F : Type 0} → Gives F
gives_error f values pairs = error

-- a locale's text of a value, if numbers are written as a locale does
abbrev pub numerals_text : Settings → Value (Unit {0}) → Option Text
numerals_text settings = formatted_in (option_map locale_view settings.numerals)

-- By what a plural source means, its categories and how it shows values.
module _ {M : Type 0} (category_of : M → Plurals) (stringified : M → (S : Type 0) → (S → Text) → S → Text) where
  -- What stays the same while messages are formatted, by what ids stand for, the settings, the plural source, and what functions give.
  -- There is no transform, and no formatter but that of a locale's numbers.
  abbrev pub environment_from : {F : Type 0} → Ids F → plain.Settings → M → Gives F → Environment (Unit {0}) F
  environment_from ids settings plurals gives = record {
    find = find ids;
    call = gives;
    isolating = settings.isolating;
    transformed = λ s. s;
    formatted = formatted_in settings.numerals;
    plurals = category_of plurals;
    shown = stringified plurals (Unit {0}) no_text;
  }

  -- the same by what a desk has
  abbrev pub environment_by : {F : Type 0} → Gives F → Desk M F → Environment (Unit {0}) F
  environment_by gives desk = environment_from (desk_ids desk) (settings_view desk.settings) desk.plurals.now gives

  -- the same of what patterns are resolved in
  abbrev pub asking_view : {F L : Type 0} → (L → Gives F) → Asking M F L → Environment (Unit {0}) F
  asking_view gives asking = environment_by (gives asking.caller.now) asking.desk.now

  -- there are no functions but `NUMBER`
  abbrev pub environment_in : Desk M NoFunction → Environment (Unit {0}) NoFunction
  environment_in desk = environment_by gives_error desk

  -- what a pattern gives for these arguments
  abbrev pub reply_by : Desk M NoFunction → List (Text × Value (Unit {0})) → Elements → Reply
  reply_by desk args es = told (answer_written (environment_in desk) args es)

  -- this is what a message gives for these arguments, by what a desk has
  abbrev pub IsFormatted : Desk M NoFunction → Text → Option (Bor Text) → FluentArgs NoCustom → Option code.Reply → Type 0
  IsFormatted desk id attribute args reply = option_map reply_view reply ≡ message_reply (environment_in desk) id (option_copied attribute) (arguments_view args)

-- what the code's pattern gives for the code's arguments, by what a plural source means, and what functions give
abbrev pub answer_in : {M F : Type 0} → KindGhosts M → Gives F → Desk M F → FluentArgs NoCustom → Pattern (Bor Text) → Done Text
answer_in kind gives desk args pattern =
    answer_written (environment_by kind.category_of kind.stringified gives desk) (arguments_view args) (elements_of pattern)

-- the same as a reply, if there are no functions
abbrev pub reply_to : {M : Type 0} → KindGhosts M → Desk M NoFunction → FluentArgs NoCustom → Pattern (Bor Text) → Reply
reply_to kind desk args pattern = reply_by kind.category_of kind.stringified desk (arguments_view args) (elements_of pattern)

-- the answer by a line's arguments, if each of them is one
abbrev pub answer_asked : (List (Text × Text) → Answer) → Option (List (Text × Text)) → Answer
answer_asked answer None = bad
answer_asked answer (Some arguments) = answer arguments

-- what is written for a line with these arguments after its first tab
abbrev pub frame_asked : (List (Text × Text) → Answer) → Option (Bor Text) → Text
frame_asked answer rest = frame_of (answer_asked answer (arguments_behind rest))

-- what a pattern gives for arguments of a line
abbrev pub pattern_answer : {M : Type 0} → KindGhosts M → Desk M NoFunction → Elements → List (Text × Text) → Answer
pattern_answer kind desk es arguments = ok (reply_by kind.category_of kind.stringified desk (values_by_name arguments) es)

-- what is written for a line with these arguments, which asks for the code's pattern
abbrev pub reply_frame : {M : Type 0} → KindGhosts M → Desk M NoFunction → Option (Bor Text) → Pattern (Bor Text) → Text
reply_frame kind desk rest pattern = frame_asked (pattern_answer kind desk (elements_of pattern)) rest

-- what is written for a line
abbrev pub line_frame : {M : Type 0} → KindGhosts M → Desk M NoFunction → Text → Text
line_frame kind desk line = line_from (environment_in kind.category_of kind.stringified desk) line
