-- A desk over what was read of a catalog answers from the catalog's environment.
use Rattle.std.proofs.Common.{◌≡◌, List, Option, String, Global, ap, map, string_bytes, ◌∙◌}
use Rattle.std.specs.Prelude.{vec_items}
use Rattle.fluent_calls.specs.CallsView.{IsMadeWith, ids_with, names_of}
use Rattle.fluent_calls.specs.Functions.{Table, answered_at, unknown_answer, with_functions, with_own}
use Rattle.fluent_calls.specs.declared.desk.FunctionDesk.{FunctionDesk}
use Rattle.fluent_dates.specs.Lookup.{row_of}
use Rattle.fluent_dates.specs.declared.dates.LocaleDates.{LocaleDates}
use Rattle.fluent_grammar.specs.Words.{Text}
use Rattle.fluent_plurals.specs.Plurals.{plurals_by}
use Rattle.fluent_plurals.specs.declared.plurals.LanguagePlurals.{LanguagePlurals}
use Rattle.fluent_resource.specs.declared.resource.FluentResource.{FluentResource}
use Rattle.fluent_run.proofs.Environments.{ids-read}
use Rattle.fluent_run.specs.Dated.{environment_with}
use Rattle.fluent_run.specs.DeskView.{desk_ids, ids_added}
use Rattle.fluent_run.specs.RunView.{settings_view}
use Rattle.fluent_run.specs.declared.settings.Settings.{Settings}
use Rattle.fluent_text.specs.declared.stack.StackBudget.{StackBudget}
use Rattle.fluent_kept.specs.Catalogs.{Catalog, IsReadOf, calling_in, catalog_calling_by, ids_calling}
use Rattle.fluent_kept.specs.declared.resources.Resources.{Resources}

module _ (names : List (String Global)) (lent : List FluentResource) (settings : Settings) (catalog : Catalog) (set : settings_view settings ≡ catalog.settings) where
  -- the ids of what was read are those of the catalog
  pub ids-same : (read : Resources) → lent ≡ vec_items read.list → IsReadOf read catalog → ids_with names settings.overriding lent ≡ ids_calling catalog (map string_bytes names)
  ids-same read these is = ap (with_functions (map string_bytes names))
      (ap (ids_added settings.overriding) these
      ∙ ap (λ s. ids_added s.overriding (vec_items read.list)) set
      ∙ ids-read catalog.settings.overriding (vec_items read.list) catalog.sources is.entries)

  -- what a desk is made of says what messages are formatted by
  pub environment-same : (dates : Option LocaleDates) (plurals : LanguagePlurals) (budget : StackBudget) (made : FunctionDesk LanguagePlurals) →
      IsMadeWith names lent settings dates plurals budget made → row_of dates ≡ catalog.dates → plurals ≡ catalog.plurals →
      ids_with names settings.overriding lent ≡ ids_calling catalog (map string_bytes names) →
      (table : Table) → calling_in made table ≡ catalog_calling_by catalog (map string_bytes names) table
  environment-same dates plurals budget made is written by ids table =
      let gives = λ (ns : List Text). with_own (answered_at unknown_answer ns table) in
      ap (λ (p : LanguagePlurals). environment_with (plurals_by p) (settings_view made.desk.settings) (row_of made.dates) (gives (names_of made)) (desk_ids made.desk)) (is.desk.plurals ∙ by)
      ∙ ap (λ s. environment_with (plurals_by catalog.plurals) s (row_of made.dates) (gives (names_of made)) (desk_ids made.desk)) (ap settings_view is.desk.settings ∙ set)
      ∙ ap (λ row. environment_with (plurals_by catalog.plurals) catalog.settings row (gives (names_of made)) (desk_ids made.desk)) (ap row_of is.dates ∙ written)
      ∙ ap (λ ns. environment_with (plurals_by catalog.plurals) catalog.settings catalog.dates (gives ns) (desk_ids made.desk)) is.names
      ∙ ap (environment_with (plurals_by catalog.plurals) catalog.settings catalog.dates (gives (map string_bytes names))) (is.desk.ids ∙ ids)
