-- Findings as commands of a workflow of GitHub, which shows them at their lines.
use Rattle.std.specs.Prelude.{ℕ, ◌==◌, if◌then◌else◌, List, [], ◌∷◌, ◌++◌, codes, decimal}
use Rattle.std.specs.List.{flat_map}
use Rattle.fluent_grammar.specs.Words.{Text, carriage_return, line_feed, colon, comma}
use Rattle.lint_findings.specs.Position.{position_of}
use Rattle.lint_findings.specs.Finding.{Severity, error, warning, note}
use Rattle.lint_findings.specs.Findings.{FileFinding}
use Rattle.lint_findings.specs.Report.{labelled_text}

abbrev pub command_name : Severity → Text
command_name error = codes "error"
command_name warning = codes "warning"
command_name note = codes "notice"

-- a byte of a command's message
abbrev pub message_byte : ℕ → Text
message_byte c =
    if c == 37 then codes "%25"
    else if c == carriage_return then codes "%0D"
    else if c == line_feed then codes "%0A"
    else c ∷ []

-- a byte of a command's property
abbrev pub property_byte : ℕ → Text
property_byte c = if c == colon then codes "%3A" else if c == comma then codes "%2C" else message_byte c

-- `::error file=FILE,line=LINE,col=COLUMN,title=CODE::ENTRY: TEXT`
abbrev pub finding_command : FileFinding → Text
finding_command f =
    let p = position_of f.file.source f.finding.offset in
    codes "::" ++ (command_name f.finding.severity ++ (codes " file=" ++ (flat_map property_byte f.file.name
    ++ (codes ",line=" ++ (decimal p.line ++ (codes ",col=" ++ (decimal p.column
    ++ (codes ",title=" ++ (f.finding.code ++ (codes "::" ++ (flat_map message_byte (labelled_text f.finding) ++ codes "\n")))))))))))

abbrev pub report_github : List FileFinding → Text
report_github fs = flat_map finding_command fs
