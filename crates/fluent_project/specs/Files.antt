-- What the file of a project says.
use Rattle.std.specs.Prelude.{ℕ, ◌+◌, if◌then◌else◌, List, [], ◌∷◌, Option, Some, None, Result, Ok, Err, codes, ok_or, option_and_then}
use Rattle.toml.specs.Data.{Data, Items, Members, no_items, item, no_members, member, as_array, as_str, as_table, get_member}
use Rattle.fluent_project.specs.declared.faults.FaultKind.{FaultKind}
use Rattle.fluent_project.specs.declared.faults.FaultKind.TheVariants.{NoText, NoTexts, NoLanguages, NoList, NoAction, NoTable, NoTables, Missing, Unknown}
use Rattle.fluent_project.specs.declared.file.Action.{Action}
use Rattle.fluent_project.specs.declared.file.Action.TheVariants as action
use Rattle.fluent_project.specs.FileValues.{is_among, languages_of, list_of, text_of, texts_of}
use Rattle.fluent_project.specs.Patterns.{Text}
use Rattle.fluent_project.specs.Places.{Place, top, inside}
use Rattle.fluent_project.specs.Written.{same_text}

-- what is wrong, and where
pub record Fault : Type 0 where
  pub place : Place
  pub kind : FaultKind

abbrev pub fault : Place → FaultKind → Fault
fault place kind = record { place = place; kind = kind }

abbrev pub step : {A B : Type 0} → Result A Fault → (A → Result B Fault) → Result B Fault
step (Ok value) more = more value
step (Err fault) more = Err fault

-- The value of a key, read as what it is to be. A key that isn't there gives nothing,
abbrev pub if_read : {A : Type 0} → Place → FaultKind → Option A → Result (Option A) Fault
if_read place kind None = Err (fault place kind)
if_read place kind (Some read) = Ok (Some read)

abbrev pub optional : {A : Type 0} → Place → FaultKind → (Data → Option A) → Option Data → Result (Option A) Fault
optional place kind read None = Ok None
optional place kind read (Some value) = if_read place kind (read value)

-- or it is missing.
abbrev pub needed : {A : Type 0} → Place → FaultKind → (Data → Option A) → Option Data → Result A Fault
needed place kind read None = Err (fault place Missing)
needed place kind read (Some value) = ok_or (read value) (fault place kind)

-- the first key that is none of these
abbrev pub first_unknown : List Text → Members → Option Text
first_unknown keys no_members = None
first_unknown keys (member key value members) = if is_among key keys then first_unknown keys members else Some key

abbrev pub if_known : {A : Type 0} → (Text → Place) → Option Text → Result A Fault → Result A Fault
if_known place None result = result
if_known place (Some key) result = Err (fault (place key) Unknown)

-- Tables of a name, `[[name]]`. Each has its number.
abbrev pub if_tables : Text → Option Data → Result Items Fault
if_tables name None = Ok no_items
if_tables name (Some value) = ok_or (as_array value) (fault (top name) NoTables)

abbrev pub tables : Text → Members → Result Items Fault
tables name members = if_tables name (get_member name members)

abbrev pub a_table : Text → Data → Result Members Fault
a_table name value = ok_or (as_table value) (fault (top name) NoTables)

-- one table of a name, `[name]`
abbrev pub if_table : Text → Option Data → Result (Option Members) Fault
if_table name None = Ok None
if_table name (Some value) = if_read (top name) NoTable (as_table value)

abbrev pub one_table : Text → Members → Result (Option Members) Fault
one_table name members = if_table name (get_member name members)

-- `[[paths]]`: a translation's path by its language, and the reference's, if there is one. Of these languages alone, if they are named.
pub record PathRule : Type 0 where
  pub reference : Option Text
  pub l10n : Text
  pub locales : Option (List Text)

abbrev pub path_keys : List Text
path_keys = codes "reference" ∷ codes "l10n" ∷ codes "locales" ∷ codes "test" ∷ codes "module" ∷ []

abbrev pub in_paths : ℕ → Text → Place
in_paths n key = inside (codes "paths") n key

abbrev pub known_rule_in : ℕ → Members → Result PathRule Fault
known_rule_in n members =
    step (needed (in_paths n (codes "l10n")) NoText text_of (get_member (codes "l10n") members)) (λ l10n.
    step (optional (in_paths n (codes "reference")) NoText text_of (get_member (codes "reference") members)) (λ reference.
    step (optional (in_paths n (codes "locales")) NoLanguages languages_of (get_member (codes "locales") members)) (λ locales.
    Ok (record { reference = reference; l10n = l10n; locales = locales }))))

abbrev pub path_rule_in : ℕ → Members → Result PathRule Fault
path_rule_in n members = if_known (in_paths n) (first_unknown path_keys members) (known_rule_in n members)

abbrev pub path_rule : ℕ → Data → Result PathRule Fault
path_rule n value = step (a_table (codes "paths") value) (path_rule_in n)

-- `[[filters]]`: what becomes of files, or of their messages with these keys
pub record Filter : Type 0 where
  pub paths : List Text
  pub keys : Option (List Text)
  pub action : Action

abbrev pub action_named : Text → Option Action
action_named name =
    if same_text (codes "ignore") name then Some action.Ignore
    else if same_text (codes "warning") name then Some action.Warning
    else if same_text (codes "error") name then Some action.Error
    else None

abbrev pub action_of : Data → Option Action
action_of value = option_and_then action_named (as_str value)

abbrev pub in_filters : ℕ → Text → Place
in_filters n key = inside (codes "filters") n key

abbrev pub filter_in : ℕ → Members → Result Filter Fault
filter_in n members =
    step (needed (in_filters n (codes "action")) NoAction action_of (get_member (codes "action") members)) (λ action.
    step (needed (in_filters n (codes "path")) NoTexts texts_of (get_member (codes "path") members)) (λ paths.
    step (optional (in_filters n (codes "key")) NoTexts texts_of (get_member (codes "key") members)) (λ keys.
    Ok (record { paths = paths; keys = keys; action = action }))))

abbrev pub filter_rule : ℕ → Data → Result Filter Fault
filter_rule n value = step (a_table (codes "filters") value) (filter_in n)

-- `[[includes]]` and `[[excludes]]`: the paths of other files
abbrev pub linked : Text → ℕ → Data → Result Text Fault
linked name n value = step (a_table name value) (λ members. needed (inside name n (codes "path")) NoText text_of (get_member (codes "path") members))

-- all tables of a name, the first of them with this number
abbrev pub with_rule : {A : Type 0} → Result A Fault → Result (List A) Fault → Result (List A) Fault
with_rule (Err fault) rules = Err fault
with_rule (Ok rule) (Err fault) = Err fault
with_rule (Ok rule) (Ok rules) = Ok (rule ∷ rules)

abbrev pub rules_from : {A : Type 0} → (ℕ → Data → Result A Fault) → ℕ → Items → Result (List A) Fault
rules_from rule n no_items = Ok []
rules_from rule n (item value values) = with_rule (rule n value) (rules_from rule (n + 1) values)

abbrev pub rules_of : {A : Type 0} → (ℕ → Data → Result A Fault) → Text → Members → Result (List A) Fault
rules_of rule name members = step (tables name members) (rules_from rule 0)

abbrev pub path_rules : Members → Result (List PathRule) Fault
path_rules members = rules_of path_rule (codes "paths") members

abbrev pub filters : Members → Result (List Filter) Fault
filters members = rules_of filter_rule (codes "filters") members

abbrev pub linked_paths : Text → Members → Result (List Text) Fault
linked_paths name members = rules_of (linked name) name members

-- `[env]`: variables of patterns
abbrev pub variable : Text → Option Text → Result (Text × Text) Fault
variable name None = Err (fault (inside (codes "env") 0 name) NoText)
variable name (Some text) = Ok (name, text)

abbrev pub variables_from : Members → Result (List (Text × Text)) Fault
variables_from no_members = Ok []
variables_from (member name value members) = with_rule (variable name (text_of value)) (variables_from members)

abbrev pub if_variables : Option Members → Result (List (Text × Text)) Fault
if_variables None = Ok []
if_variables (Some members) = variables_from members

abbrev pub variables_of : Members → Result (List (Text × Text)) Fault
variables_of members = step (one_table (codes "env") members) if_variables

-- `[kozhvadi]`: what other programs don't read. The functions that messages can call, the codes of findings that are left out, and
-- which files the language server takes as one catalog.
pub record Settings : Type 0 where
  pub functions : Option (List Text)
  pub ignored : Option (List Text)
  pub catalog : Option Text

abbrev pub no_settings : Settings
no_settings = record { functions = None; ignored = None; catalog = None }

abbrev pub settings_keys : List Text
settings_keys = codes "functions" ∷ codes "ignore" ∷ codes "catalog" ∷ []

abbrev pub in_settings : Text → Place
in_settings key = inside (codes "kozhvadi") 0 key

abbrev pub known_settings_in : Members → Result Settings Fault
known_settings_in members =
    step (optional (in_settings (codes "functions")) NoList list_of (get_member (codes "functions") members)) (λ functions.
    step (optional (in_settings (codes "ignore")) NoList list_of (get_member (codes "ignore") members)) (λ ignored.
    step (optional (in_settings (codes "catalog")) NoText text_of (get_member (codes "catalog") members)) (λ catalog.
    Ok (record { functions = functions; ignored = ignored; catalog = catalog }))))

abbrev pub settings_in : Members → Result Settings Fault
settings_in members = if_known in_settings (first_unknown settings_keys members) (known_settings_in members)

abbrev pub if_settings : Option Members → Result Settings Fault
if_settings None = Ok no_settings
if_settings (Some members) = settings_in members

abbrev pub settings_of : Members → Result Settings Fault
settings_of members = step (one_table (codes "kozhvadi") members) if_settings

-- The keys before all tables, and the variables: where paths begin, and the languages.
pub record Head : Type 0 where
  pub basepath : Option Text
  pub locales : Option (List Text)
  pub variables : List (Text × Text)

abbrev pub head_of : Members → Result Head Fault
head_of members =
    step (optional (top (codes "basepath")) NoText text_of (get_member (codes "basepath") members)) (λ basepath.
    step (optional (top (codes "locales")) NoLanguages languages_of (get_member (codes "locales") members)) (λ locales.
    step (variables_of members) (λ variables.
    Ok (record { basepath = basepath; locales = locales; variables = variables }))))

-- files whose tables count as well, and files whose paths are left out
pub record Links : Type 0 where
  pub includes : List Text
  pub excludes : List Text

abbrev pub links_of : Members → Result Links Fault
links_of members =
    step (linked_paths (codes "includes") members) (λ includes.
    step (linked_paths (codes "excludes") members) (λ excludes.
    Ok (record { includes = includes; excludes = excludes })))

-- What the file says. Other keys before all tables, and other tables, belong to other programs.
pub record File : Type 0 where
  pub head : Head
  pub paths : List PathRule
  pub filters : List Filter
  pub links : Links
  pub settings : Settings

abbrev pub file_of : Members → Result File Fault
file_of members =
    step (head_of members) (λ head.
    step (path_rules members) (λ paths.
    step (filters members) (λ filters.
    step (links_of members) (λ links.
    step (settings_of members) (λ settings.
    Ok (record { head = head; paths = paths; filters = filters; links = links; settings = settings }))))))
