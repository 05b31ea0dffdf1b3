-- What the code's reports stand for.
use Rattle.std.specs.Prelude.{ℕ, List, string_bytes}
use Rattle.fluent_grammar.specs.Words.{Text}
use Rattle.lint_findings.specs.View.{findings_view}
use Rattle.lint_findings.specs.declared.records.File.{File}
use Rattle.lint_findings.specs.declared.records.FileFindings.{FileFindings}
use Rattle.lint_report.specs.Formats.{format_view}
use Rattle.fluent_lint.specs.FileTiles.{files_view}
use Rattle.fluent_lint.specs.Reports.{ignored_by, options_view}
use Rattle.fluent_lint.specs.declared.reports.Options.{Options}
use Rattle.fluent_lint.specs.declared.reports.Output as code
use Rattle.fluent_lint.specs.declared.reports.Report.{Report}
use Rattle.fluent_lint.specs.LintReport.{LintReport, Output, found_ending, found_report, found_text, lint_report}

abbrev pub output_view : code.Output → Output
output_view o = record { format = format_view o.format; ignored = ignored_by o; notes = o.notes; counts = o.counts; strict = o.strict }

abbrev pub report_view : Report → LintReport
report_view r = record { text = string_bytes r.text; has_failed = r.has_failed }

-- what is asked for, on findings of so many files
abbrev pub report_on_findings : code.Output → ℕ → List FileFindings → LintReport
report_on_findings output files fs = found_report (output_view output) files (findings_view fs)

abbrev pub text_on_findings : code.Output → ℕ → List FileFindings → Text
text_on_findings output files fs = found_text (format_view output.format) output.notes files (findings_view fs)

abbrev pub ending_on_findings : code.Output → ℕ → List FileFindings → Text
ending_on_findings output files fs = found_ending (format_view output.format) output.notes files (findings_view fs)

-- the report that is asked for, on these files
abbrev pub report_on_files : Options → code.Output → List File → List File → LintReport
report_on_files options output references files = lint_report (options_view options) (output_view output) (files_view references) (files_view files)
