-- The program `ftl` and its commands, as `clap` knows them.
use Rattle.std.specs.Prelude.{◌≡◌, List, [], ◌∷◌, ◌++◌, Some, Result, IfOk, true, false, codes}
use Rattle.clap.specs.Lexer.{usize_max}
use Rattle.clap.specs.Words.{App, Rule, Shape, Text, app_of, new_app, new_rule, rule_of, shape_of, with_subcommand}
use Rattle.clap.specs.Simple.{new_shape, on_top}
use Rattle.clap.specs.declared.builder.action.ArgAction.TheVariants.{Append, SetTrue}
use Rattle.clap.specs.declared.builder.arg.Arg.{Arg}
use Rattle.clap.specs.declared.builder.command.Command.{Command}
use Rattle.clap.specs.declared.builder.command.Command.TheViews.{out-Command as fields_of}

-- `--name`
abbrev pub flag_rule : Text → Rule
flag_rule name = record (new_rule name) { long = Some name; action = Some SetTrue }

-- `--name VALUE`
abbrev pub option_rule : Text → Rule
option_rule name = record (new_rule name) { long = Some name; value_names = 1 }

-- the same, as often as it comes
abbrev pub each_rule : Text → Rule
each_rule name = record (option_rule name) { action = Some Append }

-- `--name VALUE`, which has this value if it isn't given
abbrev pub default_rule : Text → Text → Rule
default_rule name value = record (option_rule name) { defaults = value ∷ [] }

-- a message
abbrev pub id_rule : Rule
id_rule = record (new_rule (codes "ID")) { required = true }

-- one file
abbrev pub file_rule : Rule
file_rule = record (new_rule (codes "FILE")) { required = true }

-- one or more
abbrev pub files_rule : Rule
files_rule = record file_rule { range = Some (record { start_inclusive = 1; end_inclusive = usize_max }) }

-- files and folders, one or more
abbrev pub paths_rule : Rule
paths_rule = record (new_rule (codes "PATH")) { required = true; range = Some (record { start_inclusive = 1; end_inclusive = usize_max }) }

-- the same, or none: files, folders, the file of a project, or patterns
abbrev pub project_paths_rule : Rule
project_paths_rule = record (new_rule (codes "PATH")) { range = Some (record { start_inclusive = 1; end_inclusive = usize_max }) }

-- a command with these arguments
abbrev pub shaped : Text → List Rule → Shape
shaped name rules = record (new_shape name) { rules = rules }

-- a command with one more argument
abbrev pub with_argument : Shape → Rule → Shape
with_argument s rule = record s { rules = s.rules ++ rule ∷ [] }

-- one more command, with this argument alone
abbrev pub with_command : App → Text → Rule → App
with_command a name argument = with_subcommand a (shaped name (argument ∷ []))

abbrev pub flagged_rules : List Rule
flagged_rules = flag_rule (codes "no-isolating") ∷ flag_rule (codes "overriding") ∷ []

-- the options that say how texts are made
abbrev pub asking_rules : List Rule
asking_rules = flagged_rules ++ option_rule (codes "locale") ∷ flag_rule (codes "plain-numbers") ∷ []

abbrev pub run_shape : Shape
run_shape = shaped (codes "run") (asking_rules ++ files_rule ∷ [])

abbrev pub format_shape : Shape
format_shape = shaped (codes "format") (asking_rules ++ each_rule (codes "argument") ∷ id_rule ∷ files_rule ∷ [])

-- what is known of the program and of the language: the texts that are translated, functions, and the locale
abbrev pub known_rules : List Rule
known_rules = each_rule (codes "reference") ∷ each_rule (codes "function") ∷ option_rule (codes "locale") ∷ []

-- the same, and which findings are left out
abbrev pub filtered_rules : List Rule
filtered_rules = known_rules ++ each_rule (codes "ignore") ∷ each_rule (codes "select") ∷ []

-- the same, and what is reported
abbrev pub reported_rules : List Rule
reported_rules = filtered_rules ++ flag_rule (codes "notes") ∷ flag_rule (codes "counts") ∷ []

-- and how
abbrev pub linting_rules : List Rule
linting_rules = reported_rules ++ flag_rule (codes "strict") ∷ default_rule (codes "format") (codes "text") ∷ default_rule (codes "color") (codes "auto") ∷ []

-- and which files of a project
abbrev pub within_rules : List Rule
within_rules = linting_rules ++ each_rule (codes "only") ∷ each_rule (codes "define") ∷ []

-- and the findings that it had
abbrev pub project_rules : List Rule
project_rules = within_rules ++ option_rule (codes "baseline") ∷ option_rule (codes "write-baseline") ∷ []

-- or the code that is to be explained
abbrev pub explaining_rules : List Rule
explaining_rules = project_rules ++ option_rule (codes "explain") ∷ []

abbrev pub lint_shape : Shape
lint_shape = shaped (codes "lint") (explaining_rules ++ project_paths_rule ∷ [])

-- which project and languages are counted
abbrev pub chosen_rules : List Rule
chosen_rules = each_rule (codes "reference") ∷ option_rule (codes "locale") ∷ each_rule (codes "define") ∷ []

abbrev pub status_shape : Shape
status_shape = shaped (codes "status")
    (chosen_rules ++ flag_rule (codes "files") ∷ default_rule (codes "format") (codes "text") ∷ project_paths_rule ∷ [])

abbrev pub tidy_shape : Shape
tidy_shape = shaped (codes "tidy") (flag_rule (codes "check") ∷ paths_rule ∷ [])

-- the program, which has a version, of which a command has to be named, and whose first word is no name of its own
abbrev pub bare_program : App
bare_program =
    on_top (λ s. record s { has_version = true; no_binary_name = true; subcommand_required = true }) (new_app (codes "ftl"))

unfoldable pub program_app : App
program_app = record {
  top = record bare_program.top { is_leaf = false };
  subs = run_shape
      ∷ format_shape
      ∷ shaped (codes "check") (files_rule ∷ [])
      ∷ lint_shape
      ∷ status_shape
      ∷ tidy_shape
      ∷ shaped (codes "clean") (file_rule ∷ [])
      ∷ shaped (codes "normalize") (file_rule ∷ [])
      ∷ shaped (codes "join") (files_rule ∷ [])
      ∷ shaped (codes "export") (file_rule ∷ [])
      ∷ shaped (codes "import") (file_rule ∷ [])
      ∷ [];
}

-- one more command for each way to report on sources
abbrev pub with_reports : App → App
with_reports a = with_subcommand (with_subcommand (with_command a (codes "check") files_rule) lint_shape) status_shape

-- and for each way to tidy them
abbrev pub with_tidying : App → App
with_tidying a =
    let clean = with_command a (codes "clean") file_rule in
    let normalize = with_command clean (codes "normalize") file_rule in
    let join = with_command normalize (codes "join") files_rule in
    let export = with_command join (codes "export") file_rule in
    with_command export (codes "import") file_rule

-- `clap` knows the argument so, and for its own command alone
abbrev pub IsLocal : Rule → Arg → Type 0
IsLocal rule a = (rule_of a ≡ rule) × (a.global ≡ false)

-- `clap` knows the command so, with no argument for other commands
abbrev pub IsShaped : Shape → Command → Type 0
IsShaped shape c = (shape_of c ≡ shape) × ((fields_of c).has_globals ≡ false)

-- With one more argument, a command keeps its shape, but for one more rule.
abbrev pub AddsArgument : {E : Type 0} → Result Command E → Arg → Result Command E → Type 0
AddsArgument command a more =
    (shape : Shape) → (rule : Rule) → IfOk command (IsShaped shape) → IsLocal rule a → IfOk more (IsShaped (with_argument shape rule))

-- With one more command, a program keeps what it is, but for one more shape.
abbrev pub AddsCommand : {E : Type 0} → App → Result Command E → Result Command E → Type 0
AddsCommand program command more = (shape : Shape) → IfOk command (IsShaped shape) → IfOk more (λ m. app_of m ≡ with_subcommand program shape)
