-- What a bundle is made of, and what its parts are of that.
use Rattle.std.specs.Prelude.{◌≡◌, ℕ, List, [], Option, None, Some, Result, All, IfSome, IsSomeAnd, String, map, option_and_then, option_map, vec_items, string_bytes}
use Rattle.std.specs.declared.alloc.Global.{Global}
use Rattle.std.specs.Result.{MatchResult}
use denote.Ref.{Bor}
use Rattle.fluent_answers.specs.Sources.{Settings, ids_of}
use Rattle.fluent_ast.specs.declared.Message.{Message}
use Rattle.fluent_calls.specs.CallsView.{desk_environment}
use Rattle.fluent_calls.specs.declared.desk.FunctionDesk.{FunctionDesk}
use Rattle.fluent_calls.specs.Functions.{Table, calling_environment, unknown_answer, with_functions}
use Rattle.fluent_date_tables.specs.Tables.{Row}
use Rattle.fluent_dates.specs.Lookup as dates
use Rattle.fluent_grammar.specs.Tiling.{runtime_tree}
use Rattle.fluent_grammar.specs.Words.{Text}
use Rattle.fluent_ids.specs.Found.{message_in}
use Rattle.fluent_meaning.specs.Environment.{Environment}
use Rattle.fluent_meaning.specs.Ids.{Ids, Meaning, entries_by_id}
use Rattle.fluent_numerals.specs.Lookup.{Locale, locale_for}
use Rattle.fluent_plurals.specs.Plurals.{plurals_by}
use Rattle.fluent_plurals.specs.declared.plurals.LanguagePlurals.{LanguagePlurals}
use Rattle.fluent_resource.specs.ResourceView.{entries_view}
use Rattle.fluent_run.specs.DeskView.{desk_ids}
use Rattle.fluent_run.specs.ResourceIds.{all_by_id}
use Rattle.fluent_tidy_laws.specs.Joined.{lists}
use Rattle.fluent_kept.specs.Found.{message_told}
use Rattle.fluent_kept.specs.declared.desk.Desks.{Desks}
use Rattle.fluent_kept.specs.declared.desk.Desks.TheVariants as desks
use Rattle.fluent_kept.specs.declared.desk.KeptDesk.{KeptDesk}
use Rattle.fluent_kept.specs.declared.resources.Resources.{Resources}
use Rattle.fluent_kept.specs.declared.sources.Sources.{Sources}
use Rattle.fluent_date.specs.declared.date_time.FluentDateTime.{FluentDateTime}
use Rattle.fluent_calls.specs.declared.callee.Callee.{Callee}

-- the settings, the plural rules, the texts of the sources, and how many bytes of the machine's stack reading or an answer may take
pub record Catalog : Type 0 where
  pub settings : Settings
  pub plurals : LanguagePlurals
  pub sources : List Text
  pub stack : ℕ
  -- what dates are written by; without it they are written as ISO 8601 has them
  pub dates : Option Row
  -- the names of the program's functions, if messages call any
  pub functions : Option (List Text)

-- the locale whose numbers are written, if one is named and CLDR says how it writes them
abbrev pub numerals_of : Sources → Option Locale
numerals_of s = option_and_then locale_for (option_map vec_items s.numerals)

-- what dates are written by, if a locale is named and CLDR says how it writes them
abbrev pub dates_of : Sources → Option Row
dates_of s = option_and_then dates.locale_for (option_map vec_items s.numerals)

abbrev pub settings_of : Sources → Settings
settings_of s = record { isolating = s.isolating; overriding = s.overriding; numerals = numerals_of s }

-- the names of functions, if messages call any
abbrev pub names_in : Sources → Option (List Text)
names_in s = option_map (λ names. map string_bytes (vec_items names)) s.functions

abbrev pub catalog_of : Sources → Catalog
catalog_of s = record {
  settings = settings_of s;
  plurals = s.plurals;
  sources = map string_bytes (vec_items s.texts);
  stack = s.stack.bytes;
  dates = dates_of s;
  functions = names_in s;
}

-- what stays the same while the catalog is asked for messages that call functions of these names, with a table of answers
abbrev pub catalog_calling_by : Catalog → List Text → Table → Environment FluentDateTime Callee
catalog_calling_by c names table = calling_environment unknown_answer (plurals_by c.plurals) c.settings c.dates c.sources names table

-- the same, if messages call functions
abbrev pub catalog_calling : Catalog → Table → Option (Environment FluentDateTime Callee)
catalog_calling c table = option_map (λ names. catalog_calling_by c names table) c.functions

-- the same, as if the program had no functions
abbrev pub catalog_environment : Catalog → Environment FluentDateTime Callee
catalog_environment c = catalog_calling_by c [] []

-- the same, by what a desk with functions has
abbrev pub calling_in : FunctionDesk LanguagePlurals → Table → Environment FluentDateTime Callee
calling_in made table = desk_environment plurals_by unknown_answer made table

-- the same, by what a desk has, without answers to calls
abbrev pub plain_environment : FunctionDesk LanguagePlurals → Environment FluentDateTime Callee
plain_environment made = calling_in made []

-- what the ids of a catalog stand for, with functions of these names
abbrev pub ids_calling : Catalog → List Text → Ids Callee
ids_calling c names = with_functions names (ids_of c.settings.overriding c.sources)

-- the same without functions of the program
abbrev pub catalog_ids : Catalog → Ids Callee
catalog_ids c = ids_calling c []

-- the messages and terms of a catalog by their ids, one source after the other
abbrev pub catalog_entries : Catalog → List (Text × Meaning Callee)
catalog_entries c = entries_by_id (lists c.sources)

-- this was read of the catalog
pub record IsReadOf (read : Resources) (catalog : Catalog) : Type 0 where
  pub sources : catalog_of read.sources.now ≡ catalog
  pub entries : map entries_view (vec_items read.list) ≡ map runtime_tree catalog.sources

-- this answers as the catalog does, as if the program had no functions
pub record IsPlainOf (catalog : Catalog) (made : FunctionDesk LanguagePlurals) : Type 0 where
  pub environment : plain_environment made ≡ catalog_environment catalog
  pub ids : desk_ids made.desk ≡ catalog_ids catalog
  pub entries : all_by_id made.desk.resources.now ≡ catalog_entries catalog
  pub stack : made.desk.stack.bytes ≡ catalog.stack

-- this does, of whatever catalog it was that was read
abbrev pub IsPlainFor : Resources → FunctionDesk LanguagePlurals → Type 0
IsPlainFor read made = (catalog : Catalog) → IsReadOf read catalog → IsPlainOf catalog made

-- this answers so still, of whatever catalog it was that was read
abbrev pub StaysPlain : Resources → Option (FunctionDesk LanguagePlurals) → Option (FunctionDesk LanguagePlurals) → Type 0
StaysPlain read old new = (catalog : Catalog) → IsReadOf read catalog → IfSome old (IsPlainOf catalog) → IfSome new (IsPlainOf catalog)

-- this answers calls of functions of these names as the catalog does
abbrev pub CallsAs : List Text → Catalog → FunctionDesk LanguagePlurals → Type 0
CallsAs names catalog desk = (table : Table) → calling_in desk table ≡ catalog_calling_by catalog names table

-- this does, of whatever catalog it was that was read
abbrev pub CallsFor : Resources → List (String Global) → FunctionDesk LanguagePlurals → Type 0
CallsFor read names desk = (catalog : Catalog) → IsReadOf read catalog → CallsAs (map string_bytes names) catalog desk

-- its ids are those of the catalog with functions of these names, and its entries are the catalog's, of whatever catalog it was that was read
abbrev pub HasIdsFor : Resources → List (String Global) → FunctionDesk LanguagePlurals → Type 0
HasIdsFor read names made = (catalog : Catalog) → IsReadOf read catalog → desk_ids made.desk ≡ ids_calling catalog (map string_bytes names)

abbrev pub HasEntriesFor : Resources → FunctionDesk LanguagePlurals → Type 0
HasEntriesFor read made = (catalog : Catalog) → IsReadOf read catalog → all_by_id made.desk.resources.now ≡ catalog_entries catalog

-- these answer as the catalog does
abbrev pub AreDesksOf : Catalog → Desks → Type 0
AreDesksOf catalog (desks.Plain desk) = (catalog.functions ≡ None) × IsPlainOf catalog desk
AreDesksOf catalog (desks.Calling desk plain) =
    IsSomeAnd catalog.functions (λ names. CallsAs names catalog desk) × ((desk.desk.stack.bytes ≡ catalog.stack) × IfSome plain (IsPlainOf catalog))

-- these do, of whatever catalog it was that was read
abbrev pub AreDesksFor : Resources → Desks → Type 0
AreDesksFor read desks = (catalog : Catalog) → IsReadOf read catalog → AreDesksOf catalog desks

-- this is the message of its id in the catalog
abbrev pub IsMessageOf : Catalog → Bor (Message (Bor Text)) → Type 0
IsMessageOf catalog m = message_in ((catalog_environment catalog).find (message_told m).id) ≡ Some (message_told m)

-- this answers as the catalog does
pub record IsDeskOf (desk : KeptDesk) (catalog : Catalog) : Type 0 where
  pub read : IsReadOf desk.read.now catalog
  pub desks : AreDesksOf catalog desk.desks
  pub found : All (IsMessageOf catalog) (vec_items desk.found.messages)

-- this does, of whatever catalog it was that was read
pub record IsDeskFor (read : Resources) (desk : KeptDesk) : Type 0 where
  pub of_catalog : (catalog : Catalog) → IsReadOf read catalog → IsDeskOf desk catalog

-- this holds of whatever catalog a desk is one of
abbrev pub ForIts : KeptDesk → (Catalog → Type 0) → Type 0
ForIts desk P = (catalog : Catalog) → IsDeskOf desk catalog → P catalog

-- a desk answers as whatever catalog it was one of
abbrev pub StaysDesk : KeptDesk → KeptDesk → Type 0
StaysDesk old new = ForIts old (IsDeskOf new)

-- a result of one kind or the other, each of which has this catalog
abbrev pub IsOfEither : {S B : Type 0} → (S → Catalog) → (B → Catalog) → Catalog → Result S B → Type 0
IsOfEither in_one in_other catalog result = MatchResult result (λ one. in_one one ≡ catalog) (λ other. in_other other ≡ catalog)
