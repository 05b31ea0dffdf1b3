-- What the code's commands stand for.
use Rattle.std.specs.Prelude.{◌≡◌, Bool, List, Option, None, Some, true, is_some, option_copied, option_map, Result, IfErr, string_bytes}
use Rattle.std.specs.Global.{Vec}
use denote.Ref.{Bor}
use Rattle.clap.specs.Words.{Row, Text, found_of, rows_of, subcommand_rows_of}
use Rattle.clap.specs.declared.error.kind.ErrorKind.{ErrorKind}
use Rattle.clap.specs.declared.error.kind.ErrorKind.TheVariants.{DisplayHelp, DisplayVersion}
use Rattle.clap.specs.declared.parser.matches.ArgMatches.{ArgMatches}
use Rattle.fluent_serve.specs.RequestView.{arguments_view}
use Rattle.ftl_arguments.specs.Linting.{Lint}
use Rattle.ftl_arguments.specs.Projects.{Project, ProjectLint, Status, TableFormat, plain, lines, markdown, project_linting}
use Rattle.ftl_arguments.specs.TidyFiles.{TidyFiles}
use Rattle.ftl_arguments.specs.Meaning as asked
use Rattle.ftl_arguments.specs.Meaning.{AskForExplanation, AskForHelp, AskForVersion, Asked, Format, asked_by, asked_of, command_of, explained_by, explained_of, linting, texts, tidying_by}
use Rattle.ftl_arguments.specs.Version.{version_line}
use Rattle.ftl_arguments.specs.declared.commands.Command.{Command}
use Rattle.ftl_arguments.specs.declared.commands.Command.TheVariants as command
use Rattle.ftl_arguments.specs.declared.commands.Format as code
use Rattle.ftl_arguments.specs.declared.commands.Invocation.{Invocation}
use Rattle.ftl_arguments.specs.declared.commands.Invocation.TheVariants as invocation
use Rattle.ftl_arguments.specs.declared.commands.Lint as linted
use Rattle.ftl_arguments.specs.declared.commands.ProjectLint as linted_project
use Rattle.ftl_arguments.specs.declared.commands.ProjectWords as worded
use Rattle.ftl_arguments.specs.declared.commands.Status as counted
use Rattle.ftl_arguments.specs.declared.commands.TableFormat.{TableFormat as CodeFormat}
use Rattle.ftl_arguments.specs.declared.commands.TableFormat.TheVariants as table
use Rattle.ftl_arguments.specs.declared.commands.TidyFiles as files
use Rattle.ftl_arguments.specs.declared.commands.Tidy.{Tidy}
use Rattle.ftl_arguments.specs.declared.commands.Tidy.TheVariants as of
use Rattle.ftl_arguments.specs.declared.errors.CommandError.{CommandError}
use Rattle.ftl_arguments.specs.declared.errors.CommandError.TheVariants as why
use Rattle.ftl_arguments.specs.declared.reading.WordsError.{WordsError}
use Rattle.ftl_arguments.specs.declared.reading.WordsError.TheVariants.{Memory}
use Rattle.lint_report.specs.Formats as report

abbrev pub tidy_view : Tidy → asked.Tidy
tidy_view (of.Clean file) = asked.clean file.now
tidy_view (of.Normalize file) = asked.normalize file.now
tidy_view (of.Join files) = asked.join (texts files.items)
tidy_view (of.Export file) = asked.export file.now
tidy_view (of.Import file) = asked.import file.now

-- the arguments that were read, if each has an equals sign
abbrev pub read_view : Option (Vec (Bor Text × Bor Text)) → Option (List (Text × Text))
read_view arguments = option_map (λ v. arguments_view v.items) arguments

-- an id and the name of an attribute
abbrev pub name_view : Bor Text × Option (Bor Text) → Text × Option Text
name_view name = (name.0.now, option_copied name.1)

abbrev pub format_view : code.Format → Format
format_view f = record {
  isolating = f.isolating;
  overriding = f.overriding;
  locale = option_map (λ l. l.now) f.locale;
  plain_numbers = f.plain_numbers;
  request = record { id = f.id.now; attribute = option_copied f.attribute; arguments = arguments_view f.arguments.items };
  files = texts f.files.items;
}

abbrev pub lint_view : linted.Lint → Lint
lint_view l = record {
  references = texts l.references.items;
  functions = texts l.functions.items;
  ignored = texts l.ignored.items;
  locale = option_map (λ l. l.now) l.locale;
  notes = l.notes;
  counts = l.counts;
  strict = l.strict;
  format = report.format_view l.format;
  files = texts l.files.items;
}

abbrev pub project_view : worded.ProjectWords → Project
project_view p = record {
  references = texts p.references.items;
  files = texts p.files.items;
  locales = texts p.locales.items;
  variables = arguments_view p.variables.items;
}

abbrev pub project_lint_view : linted_project.ProjectLint → ProjectLint
project_lint_view l = record {
  project = project_view l.project;
  only = texts l.only.items;
  functions = texts l.functions.items;
  ignored = texts l.ignored.items;
  baseline = option_map (λ file. file.now) l.baseline;
  written = option_map (λ file. file.now) l.written;
  notes = l.notes;
  strict = l.strict;
  format = report.format_view l.format;
}

abbrev pub table_format_view : CodeFormat → TableFormat
table_format_view table.Text = plain
table_format_view table.Json = lines
table_format_view table.Markdown = markdown

abbrev pub status_view : counted.Status → Status
status_view s = record { project = project_view s.project; files = s.files; format = table_format_view s.format }

abbrev pub tidy_files_view : files.TidyFiles → TidyFiles
tidy_files_view t = record { check = t.check; paths = texts t.paths.items }

abbrev pub command_view : Command → Asked
command_view (command.Run isolating overriding locale plain_numbers files) =
    asked.run (record { isolating = isolating; overriding = overriding; locale = option_map (λ l. l.now) locale; plain_numbers = plain_numbers; files = texts files.items })
command_view (command.Format f) = asked.format (format_view f)
command_view (command.Check files) = asked.check (texts files.items)
command_view (command.Lint l) = asked.lint (lint_view l)
command_view (command.LintInput l) = asked.lint_input (lint_view l)
command_view (command.LintProject l) = asked.lint_project (project_lint_view l)
command_view (command.Status s) = asked.status (status_view s)
command_view (command.TidyFiles t) = asked.tidy_files (tidy_files_view t)
command_view (command.TidyInput check) = asked.tidy_input check
command_view (command.Tidy t) = asked.tidy (tidy_view t)

-- The words ask for this: for a command, or for a text if they are none.
abbrev pub AskFor : Bool → List Text → Invocation → Type 0
AskFor colours words (invocation.Command command) = command_of colours words ≡ Some (command_view command)
AskFor colours words (invocation.Help text) = (command_of colours words ≡ None) × AskForHelp words
AskFor colours words (invocation.Version line) = (command_of colours words ≡ None) × (AskForVersion words × (string_bytes line ≡ version_line))
AskFor colours words (invocation.Explanation text) = (command_of colours words ≡ None) × AskForExplanation words

-- an error of this kind stands for the text
abbrev pub IsTextOf : ErrorKind → Invocation → Type 0
IsTextOf kind (invocation.Command command) = ⊥
IsTextOf kind (invocation.Help text) = kind ≡ DisplayHelp
IsTextOf kind (invocation.Version line) = (kind ≡ DisplayVersion) × (string_bytes line ≡ version_line)
IsTextOf kind (invocation.Explanation text) = ⊥

-- what was found for a command
abbrev pub found_rows : ArgMatches → List Row
found_rows found = rows_of (found_of found)

-- what the command that was met asks for
abbrev pub asked_in : Bool → ArgMatches → Option Asked
asked_in colours matches = asked_of colours (subcommand_rows_of matches)

-- the code whose explanation it asks for
abbrev pub explained : ArgMatches → Option Text
explained matches = explained_of (subcommand_rows_of matches)

abbrev pub explained_with : Text → ArgMatches → Option Text
explained_with name found = explained_by (name, found_rows found)

-- what was met: a command, or the explanation of a code
abbrev pub IsMet : Bool → ArgMatches → Invocation → Type 0
IsMet colours matches (invocation.Command command) = asked_in colours matches ≡ Some (command_view command)
IsMet colours matches (invocation.Help text) = ⊥
IsMet colours matches (invocation.Version line) = ⊥
IsMet colours matches (invocation.Explanation text) = (asked_in colours matches ≡ None) × (is_some (explained matches) ≡ true)

-- what the command of a name asks for, with what was found for it
abbrev pub asked_with : Bool → Text → ArgMatches → Option Asked
asked_with colours name found = asked_by colours (name, found_rows found)

-- and one that tidies
abbrev pub tidying_with : Text → ArgMatches → Option Asked
tidying_with name found = tidying_by (name, found_rows found)

-- and `lint`, in a catalog or in a project
abbrev pub linting_with : ArgMatches → linted.Lint → Option Asked
linting_with found l = linting (found_rows found) (lint_view l)

abbrev pub project_linting_with : ArgMatches → linted.Lint → Option ProjectLint
project_linting_with found l = project_linting (found_rows found) (lint_view l)

-- the fact holds if the words were refused, and not for want of memory
abbrev pub IfRefused : {T : Type 0} → Result T WordsError → Type 0 → Type 0
IfRefused result Fact = IfErr result (λ error. ¬ (error ≡ Memory) → Fact)

-- the words are no command, whatever is said of them
abbrev pub IsBad : CommandError → Type 0
IsBad why.Memory = ⊥
IsBad (why.Bad advice) = Unit {0}

-- the fact holds if they are none
abbrev pub IfBad : {T : Type 0} → Result T CommandError → Type 0 → Type 0
IfBad result Fact = IfErr result (λ error. IsBad error → Fact)
