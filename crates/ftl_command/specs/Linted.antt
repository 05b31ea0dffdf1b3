-- What becomes of a catalog that is linted.
use Rattle.std.specs.Prelude.{◌≡◌, Bool, List, ◌++◌, Option, IsSomeAnd, Result, IfOk, IsErrOf, string_bytes}
use Rattle.std.specs.Io.KnownBytes.{Appends}
use Rattle.fluent_serve.specs.Text.{Text}
use Rattle.fluent_plurals.specs.declared.plurals.LanguagePlurals.{LanguagePlurals}
use Rattle.fluent_lint.specs.LintReport.{LintReport, lint_report}
use Rattle.fluent_lint.specs.LintReport as report
use Rattle.fluent_lint.specs.LintView.{report_view}
use Rattle.ftl_arguments.specs.CommandView.{lint_view}
use Rattle.ftl_arguments.specs.Linting.{Lint}
use Rattle.lint_findings.specs.Files.{File}
use Rattle.lint_findings.specs.Findings.{Options}
use Rattle.ftl_arguments.specs.declared.commands.Lint as code
use Rattle.ftl_files.specs.Files.{State}
use Rattle.ftl_files.specs.Reading.{AreRead, Read, ReadsBytes, nothing_read}
use Rattle.ftl_files.specs.Reported.{both}
use Rattle.ftl_files.specs.declared.reported.Reported.{Reported}
use Rattle.fluent_serve.specs.Exchange.{Devices}
use Rattle.ftl_command.specs.Input.{IsReadWhole, input_name}
use Rattle.ftl_command.specs.Plurals.{language_asked}
use Rattle.ftl_command.specs.Program.{WritesFront}
use Rattle.ftl_command.specs.Reported.{EndsOf}
use Rattle.ftl_command.specs.declared.ended.Ended.{Ended}
use Rattle.ftl_command.specs.declared.fault.Fault.{Fault}
use Rattle.ftl_command.specs.declared.fault.Fault.TheVariants.{Input, Memory, Output}
use Rattle.ftl_command.specs.declared.linting.Linted.{Linted}

-- what is known of the program that is asked about, with these plural rules
abbrev pub options_asked : Lint → Option LanguagePlurals → Options
options_asked l plurals = record { functions = l.functions; plurals = plurals }

-- what is to be written of findings, and which of them fail
abbrev pub output_asked : Lint → report.Output
output_asked l = record { format = l.format; ignored = l.ignored; notes = l.notes; counts = l.counts; strict = l.strict }

-- the report that is asked for, on these files of a reference and of a catalog
abbrev pub report_asked : Lint → Option LanguagePlurals → List File → List File → LintReport
report_asked l plurals references files = lint_report (options_asked l plurals) (output_asked l) references files

-- The files of the reference are read, and then those of the catalog, and the outcome holds of what was read.
pub record OnCatalogs (l : Lint) (before after : State) (Outcome : Read → Read → Type 0) : Type 0 where
  pub references : Read
  pub files : Read
  pub middle : State
  pub of_reference : AreRead l.references before middle references
  pub of_catalog : AreRead l.files middle after files
  pub outcome : Outcome references files

-- The files of the reference are read, and then all of the input, whose source is the catalog, and the outcome holds of
-- what was read.
pub record OnInputCatalog (l : Lint) (before after : State) (left left_after : Option Text) (Outcome : Read → Read → Type 0) : Type 0 where
  pub references : Read
  pub bytes : Text
  pub files : Read
  pub of_reference : AreRead l.references before after references
  pub of_input : IsReadWhole left left_after bytes
  pub of_bytes : ReadsBytes input_name bytes nothing_read files
  pub outcome : Outcome references files

-- the lines of the files that could not be read, and of the paths that stand for none
abbrev pub lint_errors : Read → Read → Text
lint_errors references files = references.errors ++ files.errors

-- the same, and which errors they report
pub record Unread : Type 0 where
  pub errors : Text
  pub reported : Reported

abbrev pub lint_unread : Read → Read → Unread
lint_unread references files = record { errors = lint_errors references files; reported = both references.reported files.reported }

-- The locale that is asked for has plural rules, or none is, and the outcome holds of the report on the files that could be read, and of
-- the lines of the rest.
abbrev pub OnLintReport : Lint → State → State → (LintReport → Unread → Type 0) → Type 0
OnLintReport l before after Outcome =
    IsSomeAnd (language_asked l.locale) (λ plurals. OnCatalogs l before after (λ references files.
    Outcome (report_asked l plurals references.files files.files) (lint_unread references files)))

-- so it is of the report on the input
abbrev pub OnInputReport : Lint → State → State → Option Text → Option Text → (LintReport → Unread → Type 0) → Type 0
OnInputReport l before after left left_after Outcome =
    IsSomeAnd (language_asked l.locale) (λ plurals. OnInputCatalog l before after left left_after (λ references files.
    Outcome (report_asked l plurals references.files files.files) (lint_unread references files)))

-- these are that report and these lines
abbrev pub IsLintReport : Lint → State → State → LintReport → Unread → Type 0
IsLintReport l before after made unread = OnLintReport l before after (λ report rest. (made ≡ report) × (unread ≡ rest))

-- an end has the status of a report and of the rest, and reports which files could not be read
abbrev pub EndsLint : Unread → Bool → Ended → Type 0
EndsLint unread failed end = EndsOf unread.reported failed unread.errors end

-- What became of linting, by how it ended.
pub record LintEnds (l : Lint) (before after : State) (held held_after : Option Text) (result : Result Ended Fault) : Type 0 where
  pub linted : IfOk result (λ end. OnLintReport l before after (λ report unread. Appends held held_after report.text × EndsLint unread report.has_failed end))
  -- a front of the report is written
  pub output : IsErrOf result Output → OnLintReport l before after (λ report unread. WritesFront held held_after report.text)
  -- what the files hold is what they held
  pub kept : after.contents ≡ before.contents

-- What became of linting the input, by how it ended.
pub record LintInputEnds (l : Lint) (before after : State) (d : Devices) (result : Result Ended Fault) : Type 0 where
  pub linted : IfOk result (λ end. OnInputReport l before after d.left_before d.left_after (λ report unread.
      Appends d.held_before d.held_after report.text × EndsLint unread report.has_failed end))
  -- nothing is written
  pub memory : IsErrOf result Memory → d.held_after ≡ d.held_before
  pub input : IsErrOf result Input → d.held_after ≡ d.held_before
  -- a front of the report is written
  pub output : IsErrOf result Output → OnInputReport l before after d.left_before d.left_after (λ report unread.
      WritesFront d.held_before d.held_after report.text)
  -- what the files hold is what they held
  pub kept : after.contents ≡ before.contents

-- ---- the code's values

-- the lines of what could not be read, and which errors they report
abbrev pub unread_view : Linted → Unread
unread_view made = record { errors = string_bytes made.errors; reported = made.reported }

-- this is the report by these plural rules on what was read, and these are its lines
abbrev pub IsReportOf : code.Lint → Option LanguagePlurals → Read → Read → Linted → Type 0
IsReportOf l plurals references files made =
    (report_view made.report ≡ report_asked (lint_view l) plurals references.files files.files) × (unread_view made ≡ lint_unread references files)

-- it is the one on the catalog in files, by what is known of their folder
abbrev pub Lints : code.Lint → State → State → Linted → Type 0
Lints l before after made = IsLintReport (lint_view l) before after (report_view made.report) (unread_view made)

-- and of the input
abbrev pub LintsInput : code.Lint → State → State → Option Text → Option Text → Linted → Type 0
LintsInput l before after left left_after made =
    OnInputReport (lint_view l) before after left left_after (λ report rest. (report_view made.report ≡ report) × (unread_view made ≡ rest))

-- the end is that of this report
abbrev pub EndsLinted : Linted → Ended → Type 0
EndsLinted made end = EndsLint (unread_view made) made.report.has_failed end
