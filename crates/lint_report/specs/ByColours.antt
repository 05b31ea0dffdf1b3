-- Findings as text, in colours or without.
use Rattle.std.specs.Prelude.{Bool, true, false, ◌++◌, codes}
use Rattle.fluent_grammar.specs.Words.{Text}
use Rattle.lint_findings.specs.Colours.{coloured, coloured_line, coloured_text, place_colour, severity_colour}
use Rattle.lint_findings.specs.Files.{location}
use Rattle.lint_findings.specs.Finding.{Severity}
use Rattle.lint_findings.specs.Findings.{FileFinding}
use Rattle.lint_findings.specs.Report.{finding_line, finding_text, masked_file, severity_text}
use Rattle.lint_report.specs.View.{shown_width}

-- the caret below a finding
abbrev pub caret_by : Bool → Severity → Text
caret_by true s = coloured (severity_colour s) (codes "^")
caret_by false s = codes "^"

-- `FILE:LINE:COLUMN: SEVERITY`
abbrev pub head_by : Bool → FileFinding → Text
head_by true f =
    coloured place_colour (location (masked_file f.file) f.finding.offset) ++ (codes ": "
    ++ coloured (severity_colour f.finding.severity) (severity_text f.finding.severity))
head_by false f = location (masked_file f.file) f.finding.offset ++ (codes ": " ++ severity_text f.finding.severity)

-- the first line of a finding
abbrev pub line_by : Bool → FileFinding → Text
line_by true f = coloured_line f
line_by false f = finding_line f

-- all its lines
abbrev pub text_by : Bool → FileFinding → Text
text_by true f = coloured_text shown_width f
text_by false f = finding_text shown_width f
