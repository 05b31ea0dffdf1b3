-- What a baseline has of findings, and which findings it leaves out.
use Rattle.std.specs.Prelude.{◌≡◌, Bool, not, List, [], ◌∷◌, ◌++◌, Option, Vec, filter, map, codes, string_bytes}
use Rattle.std.specs.Global.{Global}
use Rattle.std.specs.List.{flat_map}
use Rattle.std.specs.Ordering.{nat_cmp}
use Rattle.std.specs.Cmp.Lexicographic.{slice_cmp}
use Rattle.std.specs.BTreeSet.{insert_key}
use Rattle.serde_json.specs.Data.{Data, string, object, no_members, member}
use Rattle.serde_json.specs.Written.{compact_text}
use Rattle.fluent_grammar.specs.Words.{Text, is_among}
use Rattle.lint_findings.specs.Findings.{FileFinding, findings_in}
use Rattle.lint_findings.specs.JsonReport.{text_or_null}
use Rattle.lint_findings.specs.Report.{shown}
use Rattle.lint_findings.specs.View.{file_findings_view, file_view, finding_view, findings_view}
use Rattle.lint_findings.specs.declared.records.File.{File}
use Rattle.lint_findings.specs.declared.records.FileFindings.{FileFindings}
use Rattle.lint_findings.specs.declared.records.Finding.{Finding}
use Rattle.lint_report.specs.View.{in_file}
use Rattle.ftl_project.specs.declared.baseline.Baseline.{Baseline}

-- the line of a finding with this code, of this entry of a file, and with this text: an object, whose keys are in the order of their bytes
abbrev pub line_data : Text → Option Text → Text → Text → Data
line_data code entry file text =
    object (member (codes "code") (string code)
    (member (codes "entry") (text_or_null entry)
    (member (codes "file") (string file)
    (member (codes "text") (string text) no_members))))

abbrev pub line_with : Text → Option Text → Text → Text → Text
line_with code entry file text = compact_text (line_data code entry file text)

-- Neither its place, nor its severity and its hint, is in the line of a finding.
abbrev pub known_line : FileFinding → Text
known_line f = line_with f.finding.code f.finding.entry f.file.name f.finding.text

-- whether lines have that of a finding
abbrev pub is_known : List Text → FileFinding → Bool
is_known lines f = is_among (known_line f) lines

-- the findings whose lines aren't among these, in their order
abbrev pub without : List Text → List FileFinding → List FileFinding
without lines fs = filter (λ f. not (is_known lines f)) fs

-- these lines and one more, at its place in the order of the bytes unless it is there
abbrev pub with_line : List Text → Text → List Text
with_line lines line = insert_key (slice_cmp nat_cmp) lines line

-- and more, one after the other
abbrev pub with_lines : List Text → List Text → List Text
with_lines lines [] = lines
with_lines lines (more ∷ others) = with_lines (with_line lines more) others

-- these lines and those of the findings that are shown
abbrev pub with_shown : Bool → List Text → List FileFinding → List Text
with_shown notes lines fs = with_lines lines (map known_line (shown notes fs))

-- the lines of a baseline as a text
abbrev pub text_of_lines : List Text → Text
text_of_lines lines = flat_map (λ line. line ++ codes "\n") lines

-- ---- the code's values

abbrev pub lines_of : Baseline → List Text
lines_of b = map string_bytes b.lines.keys

abbrev pub findings_of : File → List Finding → List FileFinding
findings_of file fs = findings_in (file_view file) (map finding_view fs)

-- what a baseline leaves of the findings of files, of a file and of some of its findings
abbrev pub LeavesOut : Baseline → List FileFindings → Vec FileFindings Global → Type 0
LeavesOut b old new = findings_view new.items ≡ without (lines_of b) (findings_view old)

abbrev pub LeavesOutIn : Baseline → FileFindings → FileFindings → Type 0
LeavesOutIn b old new = file_findings_view new ≡ without (lines_of b) (file_findings_view old)

abbrev pub LeavesOutOf : Baseline → File → List Finding → Vec Finding Global → Type 0
LeavesOutOf b file old new = findings_of file new.items ≡ without (lines_of b) (findings_of file old)

-- a finding is added unless it is known
abbrev pub AddsNew : Baseline → File → Finding → Vec Finding Global → Vec Finding Global → Type 0
AddsNew b file f old new = findings_of file new.items ≡ findings_of file old.items ++ without (lines_of b) (in_file file f ∷ [])
