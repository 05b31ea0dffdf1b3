-- Reports of files.
use Rattle.std.specs.Prelude.{◌≡◌, ℕ, List, ◌++◌, Some, Vec, length, map, string_bytes}
use Rattle.std.specs.Global.{Global}
use Rattle.fluent_lint.specs.FileTiles.{files_of, files_view}
use Rattle.fluent_lint.specs.Found.{found_by, told}
use Rattle.fluent_lint.specs.LintReport.{all_summaries, shown_counts, totals}
use Rattle.fluent_lint.specs.Reported.{kept_of}
use Rattle.fluent_lint.specs.declared.looked.Looked.{Looked}
use Rattle.fluent_lint.specs.declared.read.ReadFiles.{ReadFiles}
use Rattle.fluent_lint.specs.declared.reports.Options.{Options}
use Rattle.fluent_lint.specs.declared.reports.Output.{Output}
use Rattle.fluent_lint.specs.declared.reports.Report.{Report}
use Rattle.fluent_lint.specs.declared.tiles.FileTiles.{FileTiles}
use Rattle.fluent_grammar.specs.Words.{Text}
use Rattle.fluent_resource.specs.Sources.{texts}
use Rattle.lint_findings.specs.View.{findings_view}
use Rattle.lint_findings.specs.declared.records.File.{File}
use Rattle.lint_findings.specs.declared.records.FileFindings.{FileFindings}
use Rattle.lint_findings.specs.Findings as f
use Rattle.lint_findings.specs.Findings.{FileFinding, Rules}
use Rattle.lint_findings.specs.Output as out
use Rattle.lint_findings.specs.Report.{has_failed, shown}
use Rattle.lint_findings.specs.Summary.{Summary, entry_count, summaries}
use Rattle.lint_report.specs.Formats.{format_view}
use Rattle.lint_report.specs.ReportView.{summary_view}
use Rattle.lint_report.specs.View.{shown_width}
use Rattle.lint_report.specs.declared.summary.Summary as code

abbrev pub options_view : Options → f.Options
options_view o = record { functions = texts o.functions.now; plurals = o.plurals }

-- the codes that are ignored
abbrev pub ignored_by : Output → List Text
ignored_by output = texts output.ignored.now

-- the counts of these that are shown
abbrev pub counts_by : Output → List Summary → List Summary
counts_by output ss = shown_counts (format_view output.format) output.counts ss

-- what follows the counts, about these findings of this many files and entries
abbrev pub ending : Output → ℕ → ℕ → List FileFinding → Text
ending output files entries found = totals (format_view output.format) output.notes files entries found

-- the report of these findings of this many files and entries, with these summaries
pub record IsReportOf (found : List FileFinding) (ss : List Summary) (files entries : ℕ) (output : Output) (report : Report) : Type 0 where
  pub text : string_bytes report.text
      ≡ out.output (format_view output.format) shown_width (shown output.notes found) ss ++ ending output files entries found
  pub failed : report.has_failed ≡ has_failed output.strict found

-- the counts of these files with a reference, by all findings
abbrev pub summaries_of : List FileFinding → List FileTiles → List FileTiles → List Summary
summaries_of all references files = summaries (files_view (files_of references)) (files_view (files_of files)) all

-- these are they
abbrev pub AreSummaries : List FileFindings → List FileTiles → List FileTiles → Vec code.Summary Global → Type 0
AreSummaries found references files counts = map summary_view counts.items ≡ summaries_of (findings_view found) references files

-- the same counts, but none without files of a reference
abbrev pub counts_of : List FileFinding → List FileTiles → List FileTiles → List Summary
counts_of all references files = all_summaries (files_view (files_of references)) (files_view (files_of files)) all

-- the counts of these findings that are shown
abbrev pub AreShown : Output → List FileFindings → List FileTiles → List FileTiles → Vec code.Summary Global → Type 0
AreShown output found references files counts =
    map summary_view counts.items ≡ counts_by output (counts_of (findings_view found) references files)

-- The report of what is found in the files of a catalog and of its reference, without what is ignored. The counts are
-- of all of it.
abbrev pub IsReportWith : List FileFinding → List File → List File → Output → Report → Type 0
IsReportWith found references files output report =
    IsReportOf (kept_of (ignored_by output) found) (counts_by output (all_summaries (files_view references) (files_view files) found))
    (length (files_view files)) (entry_count (files_view files)) output report

-- by these rules
abbrev pub IsReportBy : Rules → Looked → ReadFiles → ReadFiles → Output → Report → Type 0
IsReportBy rules looked references read output report =
    let original = references.files.now in
    let files = read.files.now in
    IsReportWith (found_by rules (Some looked) (files_view original) (files_view files)) original files output report

-- by what is known of the program and of the language
abbrev pub IsReportOn : Options → Output → List File → List File → Report → Type 0
IsReportOn o output references files report =
    IsReportWith (told (options_view o) (files_view references) (files_view files)) references files output report
