-- What messages that call functions are formatted from, as plain data.
use Rattle.std.specs.Prelude.{◌≡◌, ℕ, Bool, List, Option, String, map, string_bytes}
use Rattle.std.specs.declared.alloc.Global.{Global}
use Rattle.fluent_date.specs.declared.date_time.FluentDateTime.{FluentDateTime}
use Rattle.fluent_dates.specs.Lookup.{row_of}
use Rattle.fluent_dates.specs.declared.dates.LocaleDates.{LocaleDates}
use Rattle.fluent_grammar.specs.Words.{Text}
use Rattle.fluent_meaning.specs.Environment.{Environment}
use Rattle.fluent_ids.specs.declared.ids.FluentIds.{FluentIds}
use Rattle.fluent_meaning.specs.Ids.{Ids, find}
use Rattle.fluent_resource.specs.declared.resource.FluentResource.{FluentResource}
use Rattle.fluent_run.specs.Dated.{DateGives, dated_view, environment_with}
use Rattle.fluent_run.specs.DeskView.{IsMadeOf, desk_ids, ids_added, plain_ids}
use Rattle.fluent_run.specs.RunView.{settings_view}
use Rattle.fluent_run.specs.declared.settings.Settings.{Settings}
use Rattle.fluent_value.specs.Matching.{Plurals}
use Rattle.fluent_text.specs.declared.stack.StackBudget.{StackBudget}
use Rattle.fluent_calls.specs.Functions.{Functions, Gives, IsUnanswered, Table, answered_at, with_functions, with_own}
use Rattle.fluent_calls.specs.declared.calls.Calls.{Calls}
use Rattle.fluent_calls.specs.declared.desk.FunctionDesk.{FunctionDesk}
use Rattle.fluent_calls.specs.declared.callee.Callee.{Callee}

-- the ids of resources, then functions of these names, and `DATETIME`
abbrev pub ids_with : List (String Global) → Bool → List FluentResource → Ids Callee
ids_with functions overriding resources = with_functions (map string_bytes functions) (ids_added overriding resources)

-- the names of a desk's functions
abbrev pub names_of : {M : Type 0} → FunctionDesk M → List Text
names_of desk = map string_bytes desk.functions.now

-- a desk with functions of these names is made of these
pub record IsMadeWith {M : Type 0} (functions : List (String Global)) (read : List FluentResource) (asked : Settings) (written : Option LocaleDates) (rules : M) (budget : StackBudget) (made : FunctionDesk M) : Type 0 where
  pub desk : IsMadeOf (ids_with functions asked.overriding read) read asked rules budget made.desk
  pub names : names_of made ≡ map string_bytes functions
  pub dates : made.dates ≡ written

-- what the program's function at a place gives by the answers to its calls, with `otherwise` for a call that has no answer
abbrev pub own_of : {K : Type 0} → Functions → Calls K → ℕ → Gives
own_of otherwise calls = answered_at otherwise (map string_bytes calls.functions.now) (dated_view calls.answers.now)

-- what each function gives, by the same
abbrev pub answers_of : {K : Type 0} → Functions → Calls K → DateGives Callee
answers_of otherwise calls = with_own (own_of otherwise calls)

-- this is the text of a call that has no answer, by what ids stand for
abbrev pub IsLeft : {K : Type 0} → FluentIds Callee → Calls K → String Global → Type 0
IsLeft ids calls call = IsUnanswered (find (plain_ids ids)) (dated_view calls.answers.now) (string_bytes call)

-- What stays the same while a desk is asked, by what a plural source means, with a table of answers.
module _ {M : Type 0} (category_of : M → Plurals) where
  abbrev pub desk_environment : Functions → FunctionDesk M → Table → Environment FluentDateTime Callee
  desk_environment otherwise made table = environment_with (category_of made.desk.plurals.now) (settings_view made.desk.settings) (row_of made.dates)
      (with_own (answered_at otherwise (names_of made) table)) (desk_ids made.desk)
