-- Functions of a program, by a table of answers to their calls.
use Rattle.std.specs.Prelude.{◌≡◌, ℕ, suc, Bool, true, false, List, [], ◌∷◌, Option, None, Some, codes, get_or, unwrap_or}
use Rattle.fluent_answers.specs.Sources.{Settings, ids_of}
use Rattle.fluent_date_tables.specs.Tables.{Row}
use Rattle.fluent_dates.specs.Called.{date_called}
use Rattle.fluent_grammar.specs.Words.{Text}
use Rattle.fluent_meaning.specs.Environment.{Environment}
use Rattle.fluent_meaning.specs.Ids.{Ids, Meaning, function, message, number_function, term, with_id, with_ids}
use Rattle.fluent_run.specs.Dated.{DateGives, environment_with}
use Rattle.fluent_value.specs.Args.{argument}
use Rattle.fluent_value.specs.Matching.{Plurals}
use Rattle.fluent_value.specs.Value.{Value, error}
use Rattle.fluent_calls.specs.Calls.{IsCallOf, call_text}
use Rattle.fluent_date.specs.declared.date_time.FluentDateTime.{FluentDateTime}
use Rattle.fluent_calls.specs.declared.callee.Callee.{Callee}
use Rattle.fluent_calls.specs.declared.callee.Callee.TheVariants as callee

-- what a function gives, for positional and named arguments
abbrev pub Gives : Type 0
Gives = List (Value FluentDateTime) → List (Text × Value FluentDateTime) → Value FluentDateTime

-- what functions give, by their names
abbrev pub Functions : Type 0
Functions = Text → Gives

-- answers to calls, by the calls' texts
abbrev pub Table : Type 0
Table = List (Text × Value FluentDateTime)

-- What functions give to calls that the table lacks isn't known. Only this file could open the definition, which is neither an
-- `abbrev` nor `unfoldable`, and it doesn't: so what is proved with it holds whatever they give.
pub unknown_answer : Functions
unknown_answer name values pairs = error

-- the table's answer to a call, or what `otherwise` gives if the table has none
abbrev pub answered : Functions → Table → Functions
answered otherwise table name values pairs = unwrap_or (argument (call_text name values pairs) table) (otherwise name values pairs)

-- whether an id stands for a function of the program
abbrev pub is_program : Option (Meaning Callee) → Bool
is_program None = false
is_program (Some number_function) = false
is_program (Some (function (callee.Program place))) = true
is_program (Some (function callee.DateTime)) = false
is_program (Some (message m)) = false
is_program (Some (term m)) = false

-- by what ids stand for, a text is that of a call of a function of the program
pub record IsCall (find : Text → Option (Meaning Callee)) (call : Text) : Type 0 where
  pub name : Text
  pub program : is_program (find name) ≡ true
  pub text : IsCallOf name call

-- the text of such a call to which the table has no answer
abbrev pub IsUnanswered : (Text → Option (Meaning Callee)) → Table → Text → Type 0
IsUnanswered find table call = IsCall find call × (argument call table ≡ None)

-- A function of the program is its place among the names. This is what the one at a place gives.
abbrev pub answered_at : Functions → List Text → Table → ℕ → Gives
answered_at otherwise names table place = answered otherwise table (get_or names place [])

-- what each function gives: one of the program, and `DATETIME`
abbrev pub with_own : (ℕ → Gives) → DateGives Callee
with_own own (callee.Program place) = own place
with_own own callee.DateTime = date_called

-- names with the functions at their places, from this one on
abbrev pub placed : ℕ → List Text → List (Text × Meaning Callee)
placed place [] = []
placed place (name ∷ names) = (name, function (callee.Program place)) ∷ placed (suc place) names

-- ids with functions of the program added: a name that stands for something already stays what it is
abbrev pub with_names : List Text → Ids Callee → Ids Callee
with_names names ids = with_ids false ids (placed 0 names)

-- the same, and with `DATETIME` after them
abbrev pub with_functions : List Text → Ids Callee → Ids Callee
with_functions names ids = with_id false (with_names names ids) (codes "DATETIME", function callee.DateTime)

-- What stays the same while sources are asked that may call these functions, with a table of answers.
abbrev pub calling_environment : Functions → Plurals → Settings → Option Row → List Text → List Text → Table → Environment FluentDateTime Callee
calling_environment otherwise plurals settings dates sources names table = environment_with plurals settings dates
    (with_own (answered_at otherwise names table)) (with_functions names (ids_of settings.overriding sources))
