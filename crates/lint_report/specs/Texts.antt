-- The lines below the first one of a finding.
use Rattle.std.specs.Prelude.{ℕ, Bool, List, [], ◌++◌, map, replicate, Option, codes}
use Rattle.std.specs.Str.{chars, encode_utf8_all}
use Rattle.std.specs.Option.{option_map_or}
use Rattle.fluent_grammar.specs.Words.{Text, space}
use Rattle.lint_findings.specs.ShownLine.{masked_character, masked_text, dots_if, padding, shown_line_by}
use Rattle.lint_findings.specs.View.{file_view, finding_view, severity_view}
use Rattle.lint_findings.specs.declared.records.Finding.{Finding}
use Rattle.lint_findings.specs.declared.records.File.{File}
use Rattle.lint_report.specs.declared.excerpts.Excerpt.{Excerpt}
use Rattle.lint_report.specs.declared.excerpts.Window.{Window}
use Rattle.lint_report.specs.ByColours.{caret_by}
use Rattle.lint_report.specs.View.{shown_width}

abbrev pub masked_excerpt : Excerpt → List ℕ
masked_excerpt e = map masked_character (chars e.text.now)

-- what is shown before a finding
abbrev pub before_finding : Excerpt → List ℕ
before_finding e = dots_if e.is_cut ++ masked_excerpt e

-- and from the finding on
abbrev pub from_finding : Excerpt → List ℕ
from_finding e = masked_excerpt e ++ dots_if e.is_cut

-- the line, after its number
abbrev pub source_line : Window → Text
source_line w = codes " | " ++ (encode_utf8_all (before_finding w.before ++ from_finding w.after) ++ codes "\n")

-- the caret below it, after the spaces below the number
abbrev pub caret_line : ℕ → Excerpt → Text → Text
caret_line digits before caret = replicate digits space ++ (codes " | " ++ (padding shown_width (before_finding before) ++ (caret ++ codes "\n")))

-- the hint below that
abbrev pub hint_line : ℕ → Option Text → Text
hint_line digits hint = option_map_or (λ s. replicate digits space ++ (codes " = " ++ (masked_text s ++ codes "\n"))) hint []

-- all these lines
abbrev pub finding_lines : Bool → File → Finding → Text
finding_lines coloured file f = shown_line_by shown_width (caret_by coloured (severity_view f.severity)) (file_view file) (finding_view f)

-- what is below a masked text
abbrev pub masked_padding : Text → Text
masked_padding s = padding shown_width (map masked_character (chars s))
