-- Findings as a code quality report of GitLab, which shows them in merge requests.
use Rattle.std.specs.Prelude.{List, ◌++◌, codes}
use Rattle.std.specs.Option.{unwrap_or}
use Rattle.serde_json.specs.Data.{Data, string, number, unsigned, object, no_members, member}
use Rattle.fluent_grammar.specs.Words.{Text}
use Rattle.lint_findings.specs.Finding.{Severity, error, warning, note}
use Rattle.lint_findings.specs.Findings.{FileFinding}
use Rattle.lint_findings.specs.Listed.{listed}
use Rattle.lint_findings.specs.Position.{position_of}
use Rattle.lint_findings.specs.SarifReport.{message_text}

-- how GitLab calls a severity
abbrev pub gitlab_severity : Severity → Text
gitlab_severity error = codes "major"
gitlab_severity warning = codes "minor"
gitlab_severity note = codes "info"

-- By which GitLab knows a finding in another version of the file. It has no line, so that moved lines don't matter.
abbrev pub fingerprint : FileFinding → Text
fingerprint f =
    f.finding.code ++ (codes ":" ++ (f.file.name ++ (codes ":" ++ (unwrap_or f.finding.entry (codes "") ++ (codes ":" ++ f.finding.text)))))

abbrev pub gitlab_location : FileFinding → Data
gitlab_location f =
    object (member (codes "lines") (object (member (codes "begin")
    (number (unsigned (position_of f.file.source f.finding.offset).line)) no_members))
    (member (codes "path") (string f.file.name) no_members))

-- The keys are in the order of their bytes.
abbrev pub gitlab_issue : FileFinding → Data
gitlab_issue f =
    object (member (codes "check_name") (string f.finding.code)
    (member (codes "description") (string (message_text f.finding))
    (member (codes "fingerprint") (string (fingerprint f))
    (member (codes "location") (gitlab_location f)
    (member (codes "severity") (string (gitlab_severity f.finding.severity)) no_members)))))

-- an issue a line
abbrev pub report_gitlab : List FileFinding → Text
report_gitlab fs = codes "[" ++ (listed gitlab_issue fs ++ codes "\n]\n")
