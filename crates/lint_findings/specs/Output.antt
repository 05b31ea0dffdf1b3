-- What `lint` writes.
use Rattle.std.specs.Prelude.{ℕ, List, ◌++◌}
use Rattle.fluent_grammar.specs.Words.{Text}
use Rattle.lint_findings.specs.Findings.{FileFinding}
use Rattle.lint_findings.specs.Report.{report_text, report_lines}
use Rattle.lint_findings.specs.Colours.{coloured_report}
use Rattle.lint_findings.specs.JsonReport.{report_json}
use Rattle.lint_findings.specs.GithubReport.{report_github}
use Rattle.lint_findings.specs.GitlabReport.{report_gitlab}
use Rattle.lint_findings.specs.SarifReport.{report_sarif}
use Rattle.lint_findings.specs.Summary.{Summary, summary_text, summary_json}

pub data Format : Type 0 where
  text : Format
  -- text in colours
  terminal : Format
  lines : Format
  json : Format
  github : Format
  sarif : Format
  gitlab : Format

-- The findings in this format, of characters that are this wide. Text and JSON end with the summaries; without a
-- reference there are none.
abbrev pub output : Format → (ℕ → ℕ) → List FileFinding → List Summary → Text
output text width fs ss = report_text width fs ++ summary_text ss
output terminal width fs ss = coloured_report width fs ++ summary_text ss
output lines width fs ss = report_lines fs
output json width fs ss = report_json fs ++ summary_json ss
output github width fs ss = report_github fs
output sarif width fs ss = report_sarif fs
output gitlab width fs ss = report_gitlab fs
