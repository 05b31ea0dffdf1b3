-- Findings as text in the colours of a terminal.
use Rattle.std.specs.Prelude.{ℕ, List, ◌∷◌, ◌++◌, codes}
use Rattle.std.specs.List.{flat_map}
use Rattle.fluent_grammar.specs.Words.{Text}
use Rattle.lint_findings.specs.Files.{location}
use Rattle.lint_findings.specs.Finding.{Severity, error, warning, note}
use Rattle.lint_findings.specs.Findings.{FileFinding}
use Rattle.lint_findings.specs.Report.{labelled_text, masked_file, severity_text}
use Rattle.lint_findings.specs.ShownLine.{masked_text, shown_line_by}

-- what turns a colour on: ESC `[`, its numbers, and `m`
abbrev pub colour_on : Text → Text
colour_on numbers = 27 ∷ 91 ∷ (numbers ++ codes "m")

-- what turns all colours off
abbrev pub colours_off : Text
colours_off = colour_on (codes "0")

-- a text in a colour
abbrev pub coloured : Text → Text → Text
coloured numbers text = colour_on numbers ++ (text ++ colours_off)

-- bold, for a place
abbrev pub place_colour : Text
place_colour = codes "1"

-- bold red, yellow and cyan
abbrev pub severity_colour : Severity → Text
severity_colour error = codes "1;31"
severity_colour warning = codes "1;33"
severity_colour note = codes "1;36"

-- `FILE:LINE:COLUMN: SEVERITY: ENTRY: TEXT [CODE]`, with the place and the severity in colours
abbrev pub coloured_line : FileFinding → Text
coloured_line f =
    coloured place_colour (location (masked_file f.file) f.finding.offset) ++ (codes ": "
    ++ (coloured (severity_colour f.finding.severity) (severity_text f.finding.severity) ++ (codes ": "
    ++ (masked_text (labelled_text f.finding) ++ (codes " [" ++ (f.finding.code ++ codes "]\n"))))))

-- that line, the line of the source with a caret in the colour of the severity, and the hint
abbrev pub coloured_text : (ℕ → ℕ) → FileFinding → Text
coloured_text width f =
    coloured_line f ++ shown_line_by width (coloured (severity_colour f.finding.severity) (codes "^")) f.file f.finding

-- of all findings
abbrev pub coloured_report : (ℕ → ℕ) → List FileFinding → Text
coloured_report width fs = flat_map (coloured_text width) fs
