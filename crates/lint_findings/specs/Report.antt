-- Findings as text.
use Rattle.std.specs.Prelude.{ℕ, Bool, true, false, List, [], ◌∷◌, ◌++◌, filter, codes}
use Rattle.std.specs.List.{flat_map, list_any}
use Rattle.std.specs.Option.{option_map_or}
use Rattle.fluent_grammar.specs.Words.{Text}
use Rattle.lint_findings.specs.Files.{File, location}
use Rattle.lint_findings.specs.Finding.{Severity, error, warning, note, Finding}
use Rattle.lint_findings.specs.Findings.{FileFinding}
use Rattle.lint_findings.specs.ShownLine.{masked_text, shown_line}

-- ---- which findings

-- notes are only shown if they are asked for
abbrev pub is_shown : Bool → Severity → Bool
is_shown notes error = true
is_shown notes warning = true
is_shown notes note = notes

abbrev pub shown : Bool → List FileFinding → List FileFinding
shown notes fs = filter (λ (f : FileFinding). is_shown notes f.finding.severity) fs

-- the codes of the notes on texts, which are only shown if they are asked for
abbrev pub text_codes : List Text
text_codes =
    codes "changed-url" ∷ codes "changed-placeholder" ∷ codes "changed-number" ∷ codes "edge-space" ∷ codes "double-space" ∷ codes "doubled-word"
    ∷ codes "final-punctuation" ∷ codes "three-dots" ∷ codes "unpaired-quote" ∷ codes "straight-quote" ∷ codes "empty-text"
    ∷ codes "long-text" ∷ []

-- warnings only fail a catalog if that is asked for
abbrev pub is_failure : Bool → Severity → Bool
is_failure strict error = true
is_failure strict warning = strict
is_failure strict note = false

abbrev pub has_failed : Bool → List FileFinding → Bool
has_failed strict fs = list_any (λ (f : FileFinding). is_failure strict f.finding.severity) fs

-- ---- the text of a finding

abbrev pub severity_text : Severity → Text
severity_text error = codes "error"
severity_text warning = codes "warning"
severity_text note = codes "note"

-- what is wrong, after the entry that it is wrong with
abbrev pub labelled_text : Finding → Text
labelled_text f = option_map_or (λ entry. entry ++ codes ": ") f.entry [] ++ f.text

-- a file with a masked name
abbrev pub masked_file : File → File
masked_file file = record { name = masked_text file.name; source = file.source }

-- `FILE:LINE:COLUMN: SEVERITY: ENTRY: TEXT [CODE]`
abbrev pub finding_line : FileFinding → Text
finding_line f =
    location (masked_file f.file) f.finding.offset ++ (codes ": " ++ (severity_text f.finding.severity ++ (codes ": "
    ++ (masked_text (labelled_text f.finding) ++ (codes " [" ++ (f.finding.code ++ codes "]\n"))))))

-- that line, the line of the source with a caret, and the hint; characters are this wide
abbrev pub finding_text : (ℕ → ℕ) → FileFinding → Text
finding_text width f = finding_line f ++ shown_line width f.file f.finding

-- ---- of all findings

abbrev pub report_text : (ℕ → ℕ) → List FileFinding → Text
report_text width fs = flat_map (finding_text width) fs

abbrev pub report_lines : List FileFinding → Text
report_lines fs = flat_map finding_line fs
