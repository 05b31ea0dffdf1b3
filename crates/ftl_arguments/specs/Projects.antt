-- What `lint` and `status` are asked for of a project.
use Rattle.std.specs.Prelude.{Bool, true, false, not, ◌&&◌, ◌||◌, ◌==◌, ℕ, if◌then◌else◌, List, [], ◌∷◌, Option, Some, None, is_some, option_map, option_and_then, codes}
use Rattle.std.specs.List.{ends_with, list_any}
use Rattle.std.specs.Option.{option_map_or}
use Rattle.std.specs.Str.{bytes_eq}
use Rattle.clap.specs.Words.{Row, Text, first_of}
use Rattle.fluent_serve.specs.Requests.{arguments_of}
use Rattle.lint_findings.specs.Output.{Format}
use Rattle.ftl_arguments.specs.Found.{is_given, values_in, locale_in}
use Rattle.ftl_arguments.specs.Linting.{Lint, code_list, is_any, references_in}

-- which project, and which of its languages
pub record Project : Type 0 where
  -- patterns of the files that are translated from, at the same index as that of their translations
  pub references : List Text
  -- the file of the project, or patterns of translations; without any, the file is looked for
  pub files : List Text
  -- the tags of the languages; without any, all
  pub locales : List Text
  -- variables of patterns, which count before those of the file
  pub variables : List (Text × Text)

-- report what is found in the reference and in each language of a project
pub record ProjectLint : Type 0 where
  pub project : Project
  -- the files that are reported, and folders with such files; without any, all
  pub only : List Text
  pub functions : List Text
  pub ignored : List Text
  -- the file of findings that aren't reported, and the one that is to have the findings
  pub baseline : Option Text
  pub written : Option Text
  pub notes : Bool
  pub strict : Bool
  pub format : Format

-- how a table is written
pub data TableFormat : Type 0 where
  plain : TableFormat
  lines : TableFormat
  markdown : TableFormat

-- write what is counted in each language of a project
pub record Status : Type 0 where
  pub project : Project
  -- each file of a language has a line as well
  pub files : Bool
  pub format : TableFormat

-- ---- what names a project

abbrev pub is_file_of_project : Text → Bool
is_file_of_project path = ends_with (λ a b. a == b) path (codes ".toml")

-- an opening brace, as in `{locale}`
abbrev pub has_brace : Text → Bool
has_brace path = list_any (λ byte. byte == 123) path

abbrev pub is_patterns : List Text → Bool
is_patterns paths = list_any has_brace paths

-- its file alone
abbrev pub is_one_file : List Text → Bool
is_one_file [] = false
is_one_file (path ∷ []) = is_file_of_project path
is_one_file (path ∷ other ∷ others) = false

-- no path, its file, or patterns
abbrev pub names_project : List Text → Bool
names_project [] = true
names_project (path ∷ paths) = is_one_file (path ∷ paths) || is_patterns (path ∷ paths)

-- A reference is named only beside patterns: a file names its own.
abbrev pub has_references_for : List Text → List Text → Bool
has_references_for references paths = not (is_any references) || is_patterns paths

-- ---- what was found for a command

-- the languages of `--locale`, between commas
abbrev pub locales_in : List Row → List Text
locales_in rows = option_map_or code_list (locale_in rows) []

-- the values of `--define`, if each has an equals sign
abbrev pub variables_in : List Row → Option (List (Text × Text))
variables_in rows = arguments_of (λ s. s) (values_in (codes "define") rows)

abbrev pub project_with : List Row → List (Text × Text) → Project
project_with rows variables = record {
  references = references_in rows;
  files = values_in (codes "PATH") rows;
  locales = locales_in rows;
  variables = variables;
}

abbrev pub project_in : List Row → Option Project
project_in rows =
    if has_references_for (references_in rows) (values_in (codes "PATH") rows) then option_map (project_with rows) (variables_in rows) else None

-- the values of `--baseline` and `--write-baseline`
abbrev pub baseline_in : List Row → Option Text
baseline_in rows = first_of (codes "baseline") rows

abbrev pub written_in : List Row → Option Text
written_in rows = first_of (codes "write-baseline") rows

abbrev pub has_baseline : List Row → Bool
has_baseline rows = is_some (baseline_in rows) || is_some (written_in rows)

-- an option that is of projects alone
abbrev pub has_own_options : List Row → Bool
has_own_options rows = is_any (values_in (codes "only") rows) || (is_any (values_in (codes "define") rows) || has_baseline rows)

abbrev pub project_lint_with : List Row → Lint → Project → ProjectLint
project_lint_with rows l project = record {
  project = project;
  only = values_in (codes "only") rows;
  functions = l.functions;
  ignored = l.ignored;
  baseline = baseline_in rows;
  written = written_in rows;
  notes = l.notes;
  strict = l.strict;
  format = l.format;
}

-- Counts are those of `status`, and not asked for here.
abbrev pub project_linting : List Row → Lint → Option ProjectLint
project_linting rows l = if l.counts then None else option_map (project_lint_with rows l) (project_in rows)

abbrev pub table_format_named : Text → Option TableFormat
table_format_named name =
    if bytes_eq name (codes "text") then Some plain
    else if bytes_eq name (codes "json") then Some lines
    else if bytes_eq name (codes "markdown") then Some markdown
    else None

abbrev pub table_format_in : List Row → Option TableFormat
table_format_in rows = option_and_then table_format_named (first_of (codes "format") rows)

abbrev pub status_with : List Row → TableFormat → Project → Status
status_with rows format project = record { project = project; files = is_given (codes "files") rows; format = format }

abbrev pub if_named : Project → Option Project
if_named project = if names_project project.files then Some project else None

abbrev pub status_in : List Row → Option Status
status_in rows =
    option_and_then (λ format. option_map (status_with rows format) (option_and_then if_named (project_in rows))) (table_format_in rows)
