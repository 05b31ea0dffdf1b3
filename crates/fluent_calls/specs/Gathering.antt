-- Which calls of a pattern that have no answer are gathered: those whose values are known before one of them has an answer.
use Rattle.std.specs.Prelude.{◌≡◌, Bool, true, false, ◌&&◌, List, [], ◌∷◌, ◌++◌, Option, None, Some, option_map, unwrap_or}
use Rattle.fluent_grammar.specs.Escapes.{unescaped}
use Rattle.fluent_grammar.specs.Tree as t
use Rattle.fluent_grammar.specs.Tree.{Elements, Expression, Inline, Inlines, Nameds}
use Rattle.fluent_grammar.specs.Words.{Text}
use Rattle.fluent_meaning.specs.Environment.{Environment}
use Rattle.fluent_meaning.specs.Ids.{Meaning, number_function, function, message, term}
use Rattle.fluent_meaning.specs.Steps.{Budget, may_open, opens}
use Rattle.fluent_meaning.specs.Substitution.{most_placeables, outset, unmarked_written}
use Rattle.fluent_run.specs.Listing.{lines}
use Rattle.fluent_value.specs.Args.{all_set, argument}
use Rattle.fluent_value.specs.Builtins.{number_called}
use Rattle.fluent_value.specs.Value as v
use Rattle.fluent_value.specs.Value.{Value, number_or_text}
use Rattle.fluent_calls.specs.Calls.{call_text}
use Rattle.fluent_calls.specs.Functions.{IsUnanswered, Table}
use Rattle.fluent_date.specs.declared.date_time.FluentDateTime.{FluentDateTime}
use Rattle.fluent_calls.specs.declared.callee.Callee.{Callee}
use Rattle.fluent_calls.specs.declared.callee.Callee.TheVariants as callee
use Rattle.fluent_dates.specs.Called.{date_called}

-- ---- plain expressions

-- the value of a text or a number
abbrev pub literal : Inline → Option (Value FluentDateTime)
literal (t.string_literal s) = Some (v.text (unescaped s))
literal (t.number_literal s) = Some (number_or_text s)
literal (t.function_reference id args) = None
literal (t.message_reference id attr) = None
literal (t.term_reference id attr args) = None
literal (t.variable_reference id) = None
literal (t.nested e) = None

abbrev pub is_literal : Inline → Bool
is_literal (t.string_literal s) = true
is_literal (t.number_literal s) = true
is_literal (t.function_reference id args) = false
is_literal (t.message_reference id attr) = false
is_literal (t.term_reference id attr args) = false
is_literal (t.variable_reference id) = false
is_literal (t.nested e) = false

abbrev pub are_literals : Nameds → Bool
are_literals t.no_nameds = true
are_literals (t.named x e ns) = is_literal e && are_literals ns

-- named arguments that are literals, with their values
abbrev pub literals : Nameds → List (Text × Value FluentDateTime)
literals t.no_nameds = []
literals (t.named x e ns) = (x, unwrap_or (literal e) v.error) ∷ literals ns

-- An inline expression is plain if it is a literal, a variable, or a call whose positional arguments are plain and whose named ones are
-- literals.
abbrev mutual
  pub is_plain : Inline → Bool
  is_plain (t.string_literal s) = true
  is_plain (t.number_literal s) = true
  is_plain (t.function_reference id (t.arguments ps ns)) = are_plain ps && are_literals ns
  is_plain (t.message_reference id attr) = false
  is_plain (t.term_reference id attr args) = false
  is_plain (t.variable_reference id) = true
  is_plain (t.nested e) = false

  pub are_plain : Inlines → Bool
  are_plain t.no_inlines = true
  are_plain (t.positional e ps) = is_plain e && are_plain ps

-- a placeable is plain if it holds a plain inline expression
abbrev pub is_plain_expression : Expression → Bool
is_plain_expression (t.inline i) = is_plain i
is_plain_expression (t.select i vs) = false

-- ---- what is known of them, and which calls have no answer

-- one value more, if all are known
abbrev pub with_value : Option (Value FluentDateTime) → Option (List (Value FluentDateTime)) → Option (List (Value FluentDateTime))
with_value None values = None
with_value (Some value) values = option_map (λ vs. value ∷ vs) values

-- a call, unless it has an answer
abbrev pub unless_answered : Text → Option (Value FluentDateTime) → List Text
unless_answered call None = call ∷ []
unless_answered call (Some answer) = []

-- By what ids stand for, the arguments of the request, and the answers to calls.
module _ (find : Text → Option (Meaning Callee)) (args : List (Text × Value FluentDateTime)) (table : Table) where
  -- what a call gives, if it is known: a call of a function of the program has its answer
  abbrev pub result : Text → List (Value FluentDateTime) → List (Text × Value FluentDateTime) → Option (Meaning Callee) → Option (Value FluentDateTime)
  result id values pairs None = Some v.error
  result id values pairs (Some number_function) = Some (number_called values pairs)
  result id values pairs (Some (function (callee.Program place))) = argument (call_text id values pairs) table
  result id values pairs (Some (function callee.DateTime)) = Some (date_called values pairs)
  result id values pairs (Some (message m)) = Some v.error
  result id values pairs (Some (term m)) = Some v.error

  -- the call itself, if it is one of a function of the program and has no answer
  abbrev pub unanswered : Text → List (Value FluentDateTime) → List (Text × Value FluentDateTime) → Option (Meaning Callee) → List Text
  unanswered id values pairs None = []
  unanswered id values pairs (Some number_function) = []
  unanswered id values pairs (Some (function (callee.Program place))) =
      unless_answered (call_text id values pairs) (argument (call_text id values pairs) table)
  unanswered id values pairs (Some (function callee.DateTime)) = []
  unanswered id values pairs (Some (message m)) = []
  unanswered id values pairs (Some (term m)) = []

  -- the same, if the values of its positional arguments are known
  abbrev pub result_if : Text → List (Text × Value FluentDateTime) → Option (List (Value FluentDateTime)) → Option (Value FluentDateTime)
  result_if id pairs None = None
  result_if id pairs (Some values) = result id values pairs (find id)

  abbrev pub unanswered_if : Text → List (Text × Value FluentDateTime) → Option (List (Value FluentDateTime)) → List Text
  unanswered_if id pairs None = []
  unanswered_if id pairs (Some values) = unanswered id values pairs (find id)

  -- the value of a plain expression, if each call in it has an answer
  abbrev mutual
    pub known : Inline → Option (Value FluentDateTime)
    known (t.string_literal s) = Some (v.text (unescaped s))
    known (t.number_literal s) = Some (number_or_text s)
    known (t.function_reference id (t.arguments ps ns)) = result_if id (all_set [] (literals ns)) (all_known ps)
    known (t.message_reference id attr) = None
    known (t.term_reference id attr args) = None
    known (t.variable_reference id) = Some (unwrap_or (argument id args) v.error)
    known (t.nested e) = None

    pub all_known : Inlines → Option (List (Value FluentDateTime))
    all_known t.no_inlines = Some []
    all_known (t.positional e ps) = with_value (known e) (all_known ps)

  -- the calls in it that have no answer, and whose arguments are known: those among the arguments of a call come before it
  abbrev mutual
    pub lacking : Inline → List Text
    lacking (t.string_literal s) = []
    lacking (t.number_literal s) = []
    lacking (t.function_reference id (t.arguments ps ns)) = all_lacking ps ++ unanswered_if id (all_set [] (literals ns)) (all_known ps)
    lacking (t.message_reference id attr) = []
    lacking (t.term_reference id attr args) = []
    lacking (t.variable_reference id) = []
    lacking (t.nested e) = []

    pub all_lacking : Inlines → List Text
    all_lacking t.no_inlines = []
    all_lacking (t.positional e ps) = lacking e ++ all_lacking ps

  abbrev pub lacking_in : Expression → List Text
  lacking_in (t.inline i) = lacking i
  lacking_in (t.select i vs) = []

-- ---- the calls of a pattern

-- By what stays the same while the table's functions answer, and for arguments of a request.
module _ (env : Environment FluentDateTime Callee) (args : List (Text × Value FluentDateTime)) (table : Table) where
  -- These calls are gathered of the elements that are left: of each plain placeable those that it lacks. What isn't plain is resolved; if
  -- that ends at a call without an answer, this one is the last.
  pub data Gathers (whole : Elements) : Elements → Budget → List Text → Type 0 where
    no_more : {b : Budget} → Gathers whole t.no_elements b []
    a_text : {s : Text} {es : Elements} {b : Budget} {calls : List Text} → Gathers whole es b calls → Gathers whole (t.text s es) b calls
    too_many : {e : Expression} {es : Elements} {b : Budget} → (opens b).value ≡ false → Gathers whole (t.placeable e es) b []
    plain : {e : Expression} {es : Elements} {b : Budget} {calls : List Text} → (opens b).value ≡ true → is_plain_expression e ≡ true →
        Gathers whole es (opens b).budget calls → Gathers whole (t.placeable e es) b (lacking_in env.find args table e ++ calls)
    resolved : {e : Expression} {es : Elements} {b : Budget} {calls : List Text} → (opens b).value ≡ true → is_plain_expression e ≡ false →
        Gathers whole es (unmarked_written env whole e (outset args) (opens b).budget).budget calls → Gathers whole (t.placeable e es) b calls
    ended : {e : Expression} {es : Elements} {b : Budget} {call : Text} → (opens b).value ≡ true → is_plain_expression e ≡ false →
        IsUnanswered env.find table call → Gathers whole (t.placeable e es) b (call ∷ [])

  -- these lines are of the calls that are gathered of a pattern
  pub record AreGathered (whole : Elements) (text : Text) : Type 0 where
    pub calls : List Text
    pub in_lines : text ≡ lines calls
    pub gathered : Gathers whole whole (may_open most_placeables) calls
