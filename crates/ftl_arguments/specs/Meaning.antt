-- What words ask for, by what `clap` makes of them.
use Rattle.std.specs.Prelude.{◌≡◌, ◌⊎◌, Bool, not, if◌then◌else◌, List, [], ◌∷◌, Option, Some, None, is_some, true, map, option_map, option_and_then, codes}
use Rattle.std.specs.Str.{bytes_eq}
use denote.Ref.{Bor}
use Rattle.clap.specs.Words.{Kinds, IsAmong, Row, Text, fault_of, first_of, subcommand_of}
use Rattle.clap.specs.declared.error.kind.ErrorKind.TheVariants.{DisplayHelp, DisplayVersion}
use Rattle.fluent_serve.specs.Requests.{Request, request_of_parts}
use Rattle.ftl_arguments.specs.Commands.{program_app}
use Rattle.ftl_arguments.specs.Found.{is_given, values_in, locale_in, file_in, files_in}
use Rattle.ftl_arguments.specs.Linting.{Lint, explained_in, lint_on}
use Rattle.ftl_arguments.specs.Projects.{ProjectLint, Status, has_own_options, names_project, project_linting, status_in}
use Rattle.ftl_arguments.specs.TidyFiles.{TidyFiles, is_input, tidy_files_in}

-- answer the request lines of standard input, from the sources in these files
pub record Run : Type 0 where
  pub isolating : Bool
  pub overriding : Bool
  -- the tag of the locale whose plural rules choose variants and whose numbers are written, if one is given
  pub locale : Option Text
  -- whether numbers are written plainly, whatever the locale
  pub plain_numbers : Bool
  pub files : List Text

-- write the text of the message that is asked for, from the sources in these files
pub record Format : Type 0 where
  pub isolating : Bool
  pub overriding : Bool
  pub locale : Option Text
  pub plain_numbers : Bool
  pub request : Request Text
  pub files : List Text

-- write what a file's source is tidied into, or what several are joined into; or its JSON tree, or the text of one
pub data Tidy : Type 0 where
  clean : Text → Tidy
  normalize : Text → Tidy
  join : List Text → Tidy
  export : Text → Tidy
  import : Text → Tidy

-- what the words ask for
pub data Asked : Type 0 where
  run : Run → Asked
  format : Format → Asked
  check : List Text → Asked
  lint : Lint → Asked
  -- report what is found in standard input, by the same options
  lint_input : Lint → Asked
  lint_project : ProjectLint → Asked
  status : Status → Asked
  tidy_files : TidyFiles → Asked
  -- tidy standard input to standard output, or only check it
  tidy_input : Bool → Asked
  tidy : Tidy → Asked

-- ---- what was found for a command

-- the values of `--argument`
abbrev pub arguments_in : List Row → List Text
arguments_in rows = values_in (codes "argument") rows

abbrev pub id_in : List Row → Option Text
id_in rows = first_of (codes "ID") rows

-- The message that is asked for, and its attribute after a dot, with the arguments; without an equals sign there is no argument, and
-- then nothing is asked for. It is read as the parts of a request line are.
abbrev pub request_in : List Row → Option (Request Text)
request_in rows = option_and_then (λ id. request_of_parts (λ s. s) (id ∷ arguments_in rows)) (id_in rows)

abbrev pub run_in : List Row → Run
run_in rows = record {
  isolating = not (is_given (codes "no-isolating") rows);
  overriding = is_given (codes "overriding") rows;
  locale = locale_in rows;
  plain_numbers = is_given (codes "plain-numbers") rows;
  files = files_in rows;
}

-- with what else was found
abbrev pub format_with : List Row → Request Text → Format
format_with rows request = record {
  isolating = not (is_given (codes "no-isolating") rows);
  overriding = is_given (codes "overriding") rows;
  locale = locale_in rows;
  plain_numbers = is_given (codes "plain-numbers") rows;
  request = request;
  files = files_in rows;
}

abbrev pub format_in : List Row → Option Format
format_in rows = option_map (format_with rows) (request_in rows)

-- `tidy`, of files in place or of standard input
abbrev pub tidy_in : TidyFiles → Asked
tidy_in t = if is_input t.paths then tidy_input t.check else tidy_files t

-- `lint`, of a catalog in files or in standard input, without the options that are of projects
abbrev pub catalog_linting : List Row → Lint → Option Asked
catalog_linting rows l =
    if has_own_options rows then None
    else if is_input l.files then Some (lint_input l)
    else Some (lint l)

-- or of a project
abbrev pub linting : List Row → Lint → Option Asked
linting rows l = if names_project l.files then option_map lint_project (project_linting rows l) else catalog_linting rows l

-- a command on one file
abbrev pub on_file : (Text → Tidy) → List Row → Option Asked
on_file command rows = option_map (λ file. tidy (command file)) (file_in rows)

-- a command that tidies, by its name, with what was found for it
abbrev pub tidying_by : Text × List Row → Option Asked
tidying_by found =
    if bytes_eq found.0 (codes "clean") then on_file clean found.1
    else if bytes_eq found.0 (codes "normalize") then on_file normalize found.1
    else if bytes_eq found.0 (codes "join") then Some (tidy (join (files_in found.1)))
    else if bytes_eq found.0 (codes "export") then on_file export found.1
    else if bytes_eq found.0 (codes "import") then on_file import found.1
    else None

-- any command; `colours` says whether a screen shows the report of `lint` in colours
abbrev pub asked_by : Bool → Text × List Row → Option Asked
asked_by colours found =
    if bytes_eq found.0 (codes "run") then Some (run (run_in found.1))
    else if bytes_eq found.0 (codes "format") then option_map format (format_in found.1)
    else if bytes_eq found.0 (codes "check") then Some (check (files_in found.1))
    else if bytes_eq found.0 (codes "lint") then option_and_then (linting found.1) (lint_on colours found.1)
    else if bytes_eq found.0 (codes "status") then option_map status (status_in found.1)
    else if bytes_eq found.0 (codes "tidy") then Some (tidy_in (tidy_files_in found.1))
    else tidying_by found

abbrev pub asked_of : Bool → Option (Text × List Row) → Option Asked
asked_of colours None = None
asked_of colours (Some found) = asked_by colours found

-- ---- words

-- what is wrong with the words, as `clap` has it: a request for help or for the version is a fault too
abbrev pub faults_of : List Text → Kinds
faults_of words = fault_of program_app words

abbrev pub without_faults : Kinds → Option Asked → Option Asked
without_faults [] asked = asked
without_faults (k ∷ ks) asked = None

-- what the words ask for, if nothing is wrong with them
abbrev pub command_of : Bool → List Text → Option Asked
command_of colours words = without_faults (faults_of words) (asked_of colours (subcommand_of program_app words))

abbrev pub AskForHelp : List Text → Type 0
AskForHelp words = IsAmong DisplayHelp (faults_of words)

-- nothing but a request for help
abbrev pub AskForHelpAlone : List Text → Type 0
AskForHelpAlone words = faults_of words ≡ DisplayHelp ∷ []

abbrev pub AskForVersion : List Text → Type 0
AskForVersion words = IsAmong DisplayVersion (faults_of words)

-- nothing but a request for the version
abbrev pub AskForVersionAlone : List Text → Type 0
AskForVersionAlone words = faults_of words ≡ DisplayVersion ∷ []

-- the code whose explanation is asked for by what was found for a command, which is `lint`
abbrev pub explained_by : Text × List Row → Option Text
explained_by found = if bytes_eq found.0 (codes "lint") then explained_in found.1 else None

abbrev pub explained_of : Option (Text × List Row) → Option Text
explained_of found = option_and_then explained_by found

-- Nothing is wrong with the words, and they ask for the explanation of a code.
abbrev pub AskForExplanation : List Text → Type 0
AskForExplanation words = (faults_of words ≡ []) × (is_some (explained_of (subcommand_of program_app words)) ≡ true)

-- a request for one of the texts, of help, of the version or of what a code means
abbrev pub AskForText : List Text → Type 0
AskForText words = AskForHelp words ⊎ (AskForVersion words ⊎ AskForExplanation words)

abbrev pub texts : List (Bor Text) → List Text
texts words = map (λ w. w.now) words
