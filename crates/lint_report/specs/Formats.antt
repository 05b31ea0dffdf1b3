-- Formats, and what one finding is in them.
use Rattle.std.specs.Prelude.{Bool, List, [], ◌++◌, map, if◌then◌else◌, codes}
use Rattle.std.specs.List.{flat_map}
use Rattle.fluent_grammar.specs.Words.{Text}
use Rattle.lint_findings.specs.Findings.{FileFinding}
use Rattle.lint_findings.specs.Output as out
use Rattle.lint_findings.specs.Colours.{coloured_text}
use Rattle.lint_findings.specs.Report.{finding_line, finding_text, is_shown, shown}
use Rattle.lint_findings.specs.Summary.{Summary, summary_json, summary_text}
use Rattle.lint_findings.specs.JsonReport.{json_line, finding_data}
use Rattle.lint_findings.specs.GithubReport.{finding_command}
use Rattle.lint_findings.specs.GitlabReport.{gitlab_issue}
use Rattle.lint_findings.specs.Listed.{after_comma, listed_item}
use Rattle.lint_findings.specs.SarifReport.{sarif_head, sarif_result, sarif_tail}
use Rattle.lint_findings.specs.View.{file_findings_view, findings_view}
use Rattle.lint_findings.specs.declared.records.FileFindings.{FileFindings}
use Rattle.lint_report.specs.View.{shown_width}
use Rattle.lint_report.specs.ReportView.{summary_view}
use Rattle.lint_report.specs.declared.summary.Summary.{Summary as FileSummary}
use Rattle.lint_report.specs.declared.reports.Format.{Format}
use Rattle.lint_report.specs.declared.reports.Format.TheVariants as format

abbrev pub format_view : Format → out.Format
format_view format.Text = out.text
format_view format.Terminal = out.terminal
format_view format.Line = out.lines
format_view format.Json = out.json
format_view format.Github = out.github
format_view format.Sarif = out.sarif
format_view format.Gitlab = out.gitlab

abbrev pub finding_output : Format → FileFinding → Text
finding_output format.Text f = finding_text shown_width f
finding_output format.Terminal f = coloured_text shown_width f
finding_output format.Line f = finding_line f
finding_output format.Json f = json_line (finding_data f)
finding_output format.Github f = finding_command f
finding_output format.Sarif f = listed_item (sarif_result f)
finding_output format.Gitlab f = listed_item (gitlab_issue f)

-- a finding, unless it is a note and notes are left out
abbrev pub shown_piece : Format → Bool → FileFinding → Text
shown_piece format notes f = if is_shown notes f.finding.severity then finding_output format f else []

-- what is written after all findings
abbrev pub summaries_output : Format → List Summary → Text
summaries_output format.Text ss = summary_text ss
summaries_output format.Terminal ss = summary_text ss
summaries_output format.Line ss = []
summaries_output format.Json ss = summary_json ss
summaries_output format.Github ss = []
summaries_output format.Sarif ss = []
summaries_output format.Gitlab ss = []

-- a report by what was written of findings and summaries
abbrev pub document_output : Format → Text → Text
document_output format.Text written = written
document_output format.Terminal written = written
document_output format.Line written = written
document_output format.Json written = written
document_output format.Github written = written
document_output format.Sarif written = sarif_head ++ (after_comma written ++ sarif_tail)
document_output format.Gitlab written = codes "[" ++ (after_comma written ++ codes "\n]\n")

-- the findings of a file
abbrev pub file_output : Format → Bool → FileFindings → Text
file_output format notes f = flat_map (shown_piece format notes) (file_findings_view f)

-- what is written of all files, without notes if they are left out
abbrev pub report_output : Format → Bool → List FileFindings → List FileSummary → Text
report_output format notes fs ss =
    out.output (format_view format) shown_width (shown notes (findings_view fs)) (map summary_view ss)
