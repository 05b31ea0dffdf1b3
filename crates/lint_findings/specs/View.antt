-- The plain data that files and findings stand for.
use Rattle.std.specs.Prelude.{List, map, option_map, string_bytes}
use Rattle.std.specs.List.{flat_map}
use Rattle.lint_findings.specs.Files as files
use Rattle.lint_findings.specs.Finding as findings
use Rattle.lint_findings.specs.Findings.{FileFinding, findings_in}
use Rattle.lint_findings.specs.declared.records.Severity.{Severity}
use Rattle.lint_findings.specs.declared.records.Severity.TheVariants as severity
use Rattle.lint_findings.specs.declared.records.Finding.{Finding}
use Rattle.lint_findings.specs.declared.remark.Remark.{Remark}
use Rattle.lint_findings.specs.declared.records.File.{File}
use Rattle.lint_findings.specs.declared.records.FileFindings.{FileFindings}

abbrev pub severity_view : Severity → findings.Severity
severity_view severity.Error = findings.error
severity_view severity.Warning = findings.warning
severity_view severity.Note = findings.note

abbrev pub finding_view : Finding → findings.Finding
finding_view f = record {
  offset = f.offset;
  code = f.code.now;
  severity = severity_view f.severity;
  entry = option_map string_bytes f.entry;
  text = string_bytes f.text;
  hint = option_map string_bytes f.hint;
}

abbrev pub remark_view : Remark → findings.Remark
remark_view r = record {
  code = r.code.now;
  severity = severity_view r.severity;
  text = string_bytes r.text;
  hint = option_map string_bytes r.hint;
  inside = r.inside;
}

abbrev pub file_view : File → files.File
file_view file = record { name = file.name.now; source = file.source.now }

-- each finding of a file, with the file
abbrev pub file_findings_view : FileFindings → List FileFinding
file_findings_view f = findings_in (file_view f.file) (map finding_view f.findings.items)

-- the findings of files, in their order
abbrev pub findings_view : List FileFindings → List FileFinding
findings_view fs = flat_map file_findings_view fs
