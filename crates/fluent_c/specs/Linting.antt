-- What is found in a catalog, for C.
use Rattle.std.specs.Prelude.{◌≡◌, ◌≢◌, ◌⊎◌, ℕ, Bool, true, false, List, [], ◌∷◌, Option, None, Some, IsSomeAnd, IsUtf8, All, Contains, map, option_map}
use Rattle.fluent_grammar.specs.Words.{Text}
use Rattle.fluent_lint.specs.LintReport.{LintReport, Output, lint_report}
use Rattle.fluent_lint.specs.LintView.{output_view}
use Rattle.fluent_lint.specs.Reports.{options_view}
use Rattle.fluent_lint.specs.declared.reports.Options as code
use Rattle.fluent_lint.specs.declared.reports.Output as written
use Rattle.fluent_plurals.specs.declared.plurals.LanguagePlurals.{LanguagePlurals}
use Rattle.lint_findings.specs.Files.{File}
use Rattle.lint_findings.specs.Findings.{Options}
use Rattle.lint_findings.specs.Output.{json}
use Rattle.lint_findings.specs.Report.{text_codes}
use Rattle.fluent_c.specs.Answering.{AreUtf8, HoldsOther, plurals_named, texts_of}
use Rattle.fluent_c.specs.Made.{Holds}
use Rattle.fluent_c.specs.Statuses.{IsOneOf}
use Rattle.fluent_c.specs.declared.TheConstants.{FLUENT_READ, FLUENT_NOT_UTF8, FLUENT_NO_MEMORY, FLUENT_UNKNOWN_LOCALE, FLUENT_HAS_ERRORS}
use Rattle.fluent_c.specs.declared.files.FluentFile.{FluentFile}
use Rattle.fluent_c.specs.declared.linting.FluentLintOptions.{FluentLintOptions}
use Rattle.fluent_c.specs.declared.text.FluentText.{FluentText}

-- ---- files

-- its name and its text are UTF-8
abbrev pub IsUtf8File : FluentFile → Type 0
IsUtf8File file = IsUtf8 file.name.now × IsUtf8 file.text.now

-- each of them is
abbrev pub AreUtf8Files : List FluentFile → Type 0
AreUtf8Files = All IsUtf8File

-- one of the files isn't
pub record HoldsOtherFile (files : List FluentFile) : Type 0 where
  pub file : FluentFile
  pub stands : Contains files file
  pub other : ¬ (IsUtf8File file)

-- one of these files or of those isn't
abbrev pub HoldOther : List FluentFile → List FluentFile → Type 0
HoldOther files references = HoldsOtherFile files ⊎ HoldsOtherFile references

abbrev pub files_given : List FluentFile → List File
files_given = map (λ (file : FluentFile). record { name = file.name.now; source = file.text.now })

-- ---- what is asked for

-- the plural rules whose categories are looked for, if the locale has any; the empty tag asks for none
abbrev pub plurals_looked_for : Text → Option (Option LanguagePlurals)
plurals_looked_for [] = Some None
plurals_looked_for (byte ∷ tag) = option_map Some (plurals_named (byte ∷ tag))

-- what is known of the program that asks, with these plural rules
abbrev pub options_asked : FluentLintOptions → Option LanguagePlurals → Options
options_asked options plurals = record { functions = texts_of options.functions.now; plurals = plurals }

-- what is written: each finding as JSON; and which findings fail
abbrev pub output_asked : FluentLintOptions → Output
output_asked options = record { format = json; ignored = text_codes; notes = options.notes; counts = false; strict = options.strict }

-- the report on these files, by the plural rules of the locale, if it has any
abbrev pub report_in : FluentLintOptions → List FluentFile → List FluentFile → Option LintReport
report_in options files references =
    option_map (λ plurals. lint_report (options_asked options plurals) (output_asked options) (files_given references) (files_given files))
    (plurals_looked_for options.locale.now)

-- the report on them that the code's options ask for
abbrev pub report_by : code.Options → written.Output → List FluentFile → List FluentFile → LintReport
report_by options output files references =
    lint_report (options_view options) (output_view output) (files_given references) (files_given files)

-- ---- what comes back

-- the number says whether the catalog fails
abbrev pub lint_status : Bool → ℕ
lint_status true = FLUENT_HAS_ERRORS
lint_status false = FLUENT_READ

-- the call returns one of the two
abbrev pub HasReport : ℕ → Type 0
HasReport status = IsOneOf status (FLUENT_READ ∷ FLUENT_HAS_ERRORS ∷ [])

-- the text is the report's, and this is whether the catalog fails
abbrev pub IsReported : FluentLintOptions → List FluentFile → List FluentFile → FluentText × Bool → Type 0
IsReported options files references made =
    IsSomeAnd (report_in options files references) (λ report. Holds made.0 report.text × (made.1 ≡ report.has_failed))

-- the text is the report's, and the number says whether the catalog fails
abbrev pub IsReport : FluentLintOptions → List FluentFile → List FluentFile → ℕ → FluentText → Type 0
IsReport options files references status made =
    IsSomeAnd (report_in options files references) (λ report. Holds made report.text × (status ≡ lint_status report.has_failed))

-- a name or a text of the files isn't UTF-8, or the name of a function isn't
abbrev pub HasOtherFile : FluentLintOptions → List FluentFile → List FluentFile → Type 0
HasOtherFile options files references = HoldOther files references ⊎ HoldsOther options.functions.now

-- each of them is
abbrev pub AreAllUtf8 : FluentLintOptions → List FluentFile → List FluentFile → Type 0
AreAllUtf8 options files references = (AreUtf8Files files × AreUtf8Files references) × AreUtf8 options.functions.now

-- what a call returns that reports on files
pub record Lints (options : FluentLintOptions) (files references : List FluentFile) (status : ℕ) : Type 0 where
  pub decided : IsOneOf status (FLUENT_READ ∷ FLUENT_NOT_UTF8 ∷ FLUENT_NO_MEMORY ∷ FLUENT_UNKNOWN_LOCALE ∷ FLUENT_HAS_ERRORS ∷ [])
  pub not_utf8 : status ≡ FLUENT_NOT_UTF8 → HasOtherFile options files references
  pub utf8 : status ≢ FLUENT_NOT_UTF8 → AreAllUtf8 options files references
  pub unknown_locale : status ≡ FLUENT_UNKNOWN_LOCALE → plurals_looked_for options.locale.now ≡ None
