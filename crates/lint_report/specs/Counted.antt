-- Findings of a code, and files whose messages are counted.
use Rattle.std.specs.Prelude.{◌≡◌, ℕ, ◌+◌, Bool, if◌then◌else◌, List, ◌++◌, map, String, unwrap_or}
use Rattle.std.specs.HashMap.{HashMap, get_by_text}
use Rattle.std.specs.declared.alloc.Global.{Global}
use Rattle.std.specs.Str.{bytes_eq}
use Rattle.fluent_grammar.specs.Words.{Text}
use Rattle.lint_findings.specs.Files as files
use Rattle.lint_findings.specs.Summary.{Summary, catalog_summary, summaries, finding_count, message_count, reference_summary}
use Rattle.lint_findings.specs.View.{file_view, findings_view}
use Rattle.lint_findings.specs.declared.records.Finding.{Finding}
use Rattle.lint_findings.specs.declared.records.FileFindings.{FileFindings}
use Rattle.lint_report.specs.ReportView.{summary_view}
use Rattle.lint_report.specs.declared.summary.Summary.{Summary as FileSummary}
use Rattle.lint_report.specs.declared.files.FileMessages.{FileMessages}

abbrev pub has_code : Text → Finding → Bool
has_code code f = bytes_eq f.code.now code

abbrev pub IsCounted : FileMessages → Type 0
IsCounted f = f.messages ≡ message_count (file_view f.file)

-- the files
abbrev pub files_of : List FileMessages → List files.File
files_of fs = map (λ (f : FileMessages). file_view f.file) fs

-- for each name, how many findings have this code
abbrev pub AreCounts : {S : Type 0} → Text → List FileFindings → HashMap (String Global) ℕ S → Type 0
AreCounts code fs counts = (q : List ℕ) → unwrap_or (get_by_text counts q) 0 ≡ finding_count q code (findings_view fs)

-- the summaries of files of a catalog and of a reference
abbrev pub catalog_summaries : List FileMessages → List FileFindings → List Summary
catalog_summaries files fs = map (catalog_summary (findings_view fs)) (files_of files)

abbrev pub reference_summaries : List FileMessages → List FileFindings → List Summary
reference_summaries files fs = map (reference_summary (findings_view fs)) (files_of files)

-- a count was added to that of a name
abbrev pub IsAdded : {S : Type 0} → HashMap (String Global) ℕ S → HashMap (String Global) ℕ S → Text → ℕ → Type 0
IsAdded old new name count = (q : List ℕ) →
    unwrap_or (get_by_text new q) 0 ≡ unwrap_or (get_by_text old q) 0 + (if bytes_eq q name then count else 0)

-- the new summaries are the old ones and then these
abbrev pub Adds : List FileSummary → List FileSummary → List Summary → Type 0
Adds old new more = map summary_view new ≡ map summary_view old ++ more

abbrev pub summaries_of : List FileMessages → List FileMessages → List FileFindings → List Summary
summaries_of references files fs = summaries (files_of references) (files_of files) (findings_view fs)
