-- Findings of a project as lines of JSON, each with its language.
use Rattle.std.specs.Prelude.{Bool, List, [], Option, option_copied, codes, if◌then◌else◌}
use Rattle.std.specs.List.{flat_map}
use Rattle.lint_findings.specs.View.{file_findings_view, findings_view}
use Rattle.lint_findings.specs.declared.records.File.{File}
use Rattle.lint_findings.specs.declared.records.FileFindings.{FileFindings}
use Rattle.lint_findings.specs.declared.records.Finding.{Finding}
use Rattle.lint_report.specs.View.{in_file}
use denote.Ref.{Bor}
use Rattle.serde_json.specs.Written.{compact_text}
use Rattle.serde_json.specs.Data.{Data, string, number, unsigned, object, no_members, member}
use Rattle.fluent_grammar.specs.Words.{Text}
use Rattle.lint_findings.specs.Findings.{FileFinding}
use Rattle.lint_findings.specs.JsonReport.{json_line, text_or_null}
use Rattle.lint_findings.specs.Position.{position_of}
use Rattle.lint_findings.specs.Report.{is_shown, severity_text, shown}

-- The keys are in the order of their bytes. The language is null for the reference.
abbrev pub project_data : Option Text → FileFinding → Data
project_data locale f =
    let p = position_of f.file.source f.finding.offset in
    object (member (codes "code") (string f.finding.code)
    (member (codes "column") (number (unsigned p.column))
    (member (codes "entry") (text_or_null f.finding.entry)
    (member (codes "file") (string f.file.name)
    (member (codes "hint") (text_or_null f.finding.hint)
    (member (codes "line") (number (unsigned p.line))
    (member (codes "locale") (text_or_null locale)
    (member (codes "offset") (number (unsigned f.finding.offset))
    (member (codes "severity") (string (severity_text f.finding.severity))
    (member (codes "text") (string f.finding.text) no_members))))))))))

-- the line of a finding, unless it is a note and notes are left out
abbrev pub json_piece : Option Text → Bool → FileFinding → Text
json_piece locale notes f = if is_shown notes f.finding.severity then json_line (project_data locale f) else []

-- the object as text
abbrev pub json_text : Option Text → FileFinding → Text
json_text locale f = compact_text (project_data locale f)

-- the lines of a file's findings
abbrev pub file_json : Option Text → Bool → FileFindings → Text
file_json locale notes file = flat_map (json_piece locale notes) (file_findings_view file)

-- a line for each finding that is shown
abbrev pub group_json : Option Text → Bool → List FileFinding → Text
group_json locale notes fs = flat_map (λ f. json_line (project_data locale f)) (shown notes fs)

-- ---- the same by the code's values

abbrev pub lines_of : Option (Bor Text) → Bool → List FileFindings → Text
lines_of locale notes files = group_json (option_copied locale) notes (findings_view files)

abbrev pub piece_of : Option (Bor Text) → Bool → File → Finding → Text
piece_of locale notes file f = json_piece (option_copied locale) notes (in_file file f)

abbrev pub text_of : Option (Bor Text) → File → Finding → Text
text_of locale file f = json_text (option_copied locale) (in_file file f)
