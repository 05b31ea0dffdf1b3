-- Findings as lines of JSON.
use Rattle.std.specs.Prelude.{List, ◌++◌, Option, Some, None, codes}
use Rattle.std.specs.List.{flat_map}
use Rattle.serde_json.specs.Data.{Data, null, string, number, unsigned, object, no_members, member}
use Rattle.serde_json.specs.Written.{compact_text}
use Rattle.fluent_grammar.specs.Words.{Text}
use Rattle.lint_findings.specs.Position.{position_of}
use Rattle.lint_findings.specs.Findings.{FileFinding}
use Rattle.lint_findings.specs.Report.{severity_text}

abbrev pub text_or_null : Option Text → Data
text_or_null None = null
text_or_null (Some s) = string s

-- The keys are in the order of their bytes.
abbrev pub finding_data : FileFinding → Data
finding_data f =
    let p = position_of f.file.source f.finding.offset in
    object (member (codes "code") (string f.finding.code)
    (member (codes "column") (number (unsigned p.column))
    (member (codes "entry") (text_or_null f.finding.entry)
    (member (codes "file") (string f.file.name)
    (member (codes "hint") (text_or_null f.finding.hint)
    (member (codes "line") (number (unsigned p.line))
    (member (codes "offset") (number (unsigned f.finding.offset))
    (member (codes "severity") (string (severity_text f.finding.severity))
    (member (codes "text") (string f.finding.text) no_members)))))))))

abbrev pub json_line : Data → Text
json_line d = compact_text d ++ codes "\n"

abbrev pub report_json : List FileFinding → Text
report_json fs = flat_map (λ f. json_line (finding_data f)) fs
