-- The last lines of a report for people: how many findings there are, and in how many files.
use Rattle.std.specs.Prelude.{ℕ, ◌-◌, ◌/◌, ◌==◌, nat_lt, nat_le, Bool, true, false, ◌&&◌, if◌then◌else◌, List, [], ◌++◌, count_by, codes, decimal}
use Rattle.std.specs.Str.{bytes_eq}
use Rattle.fluent_grammar.specs.Words.{Text}
use Rattle.lint_findings.specs.Finding.{Finding, Severity, error, warning, note}
use Rattle.lint_findings.specs.Findings.{FileFinding}

abbrev pub same_severity : Severity → Severity → Bool
same_severity error error = true
same_severity warning warning = true
same_severity note note = true
same_severity _ _ = false

-- how many findings pass a test
abbrev pub found_count : (Finding → Bool) → List FileFinding → ℕ
found_count test fs = count_by (λ (f : FileFinding). test f.finding) fs

-- how many are this bad
abbrev pub severity_count : Severity → List FileFinding → ℕ
severity_count severity fs = found_count (λ (f : Finding). same_severity severity f.severity) fs

-- how many have this code
abbrev pub code_count : Text → List FileFinding → ℕ
code_count code fs = found_count (λ (f : Finding). bytes_eq f.code code) fs

-- such as `1 error` and `2 files`
abbrev pub counted : ℕ → Text → Text
counted n what = decimal n ++ (codes " " ++ (what ++ (if n == 1 then [] else codes "s")))

-- notes are only counted if they are shown
abbrev pub notes_total : Bool → List FileFinding → Text
notes_total notes fs = if notes then codes ", " ++ counted (severity_count note fs) (codes "note") else []

-- `2 errors, 9 warnings in 227 files`, or with notes `2 errors, 9 warnings, 1 note in 227 files`
abbrev pub totals_line : Bool → ℕ → List FileFinding → Text
totals_line notes files fs =
    counted (severity_count error fs) (codes "error") ++ (codes ", "
    ++ (counted (severity_count warning fs) (codes "warning") ++ (notes_total notes fs
    ++ (codes " in " ++ (counted files (codes "file") ++ codes "\n")))))

-- ---- ids that are taken

-- the id of its entry is taken
abbrev pub is_taken : Finding → Bool
is_taken f = bytes_eq f.code (codes "duplicate-id")

-- Of this many entries so many have an id that is taken, at least ten, and the others have less than twice as many ids. So
-- many errors are found, most of them of these.
abbrev pub are_most_taken : ℕ → ℕ → ℕ → Bool
are_most_taken entries taken errors = nat_le 10 taken && (nat_lt ((entries - taken) / 2) taken && nat_lt (errors - taken) taken)

-- what is asked then
abbrev pub taken_line : ℕ → List FileFinding → Text
taken_line entries fs =
    if are_most_taken entries (found_count is_taken fs) (severity_count error fs)
    then codes "most ids are taken: are these files of two languages?\n"
    else []
