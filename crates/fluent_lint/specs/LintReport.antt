-- What is written of a catalog, by what is asked for and what the files hold.
use Rattle.std.specs.Prelude.{ℕ, Bool, true, false, not, ◌&&◌, if◌then◌else◌, List, [], ◌∷◌, ◌++◌, length, filter}
use Rattle.fluent_grammar.specs.Words.{Text}
use Rattle.lint_findings.specs.Files.{File}
use Rattle.lint_findings.specs.Findings.{Options, FileFinding, findings, findings_with_reference}
use Rattle.lint_findings.specs.Output as out
use Rattle.lint_findings.specs.Output.{Format}
use Rattle.lint_findings.specs.Report as report
use Rattle.lint_findings.specs.Summary.{Summary, entry_count, summaries}
use Rattle.fluent_lint.specs.Lacking.{is_lacking}
use Rattle.fluent_lint.specs.Totals.{taken_line, totals_line}
use Rattle.lint_report.specs.View.{shown_width}
use Rattle.fluent_lint.specs.Found.{reported, told}
use Rattle.fluent_lint.specs.Reported.{kept_of}

-- What is found, before anything is left out. A catalog without a reference is looked at by itself,
abbrev pub all_findings : Options → List File → List File → List FileFinding
all_findings options [] files = findings options files
all_findings options (r ∷ rs) files = findings_with_reference options (r ∷ rs) files

-- and it has no counts
abbrev pub all_summaries : List File → List File → List FileFinding → List Summary
all_summaries [] files fs = []
all_summaries (r ∷ rs) files fs = summaries (r ∷ rs) files fs

-- text, which is for people
abbrev pub is_text : Format → Bool
is_text out.text = true
is_text out.terminal = true
is_text out.lines = false
is_text out.json = false
is_text out.github = false
is_text out.sarif = false
is_text out.gitlab = false

-- Text has the counts of a file only if messages of it are missing, unless all are asked for.
abbrev pub shown_counts : Format → Bool → List Summary → List Summary
shown_counts format all ss = if is_text format && not all then filter is_lacking ss else ss

-- and it ends with how many findings there are in so many files, and with a question if most ids of the entries are taken
abbrev pub totals : Format → Bool → ℕ → ℕ → List FileFinding → Text
totals format notes files entries fs = if is_text format then totals_line notes files fs ++ taken_line entries fs else []

-- what is written of findings, and which of them fail
pub record Output : Type 0 where
  pub format : Format
  -- the codes of findings that are left out
  pub ignored : List Text
  -- notes are written, too
  pub notes : Bool
  -- each file has its counts, also if nothing is missing
  pub counts : Bool
  -- warnings fail
  pub strict : Bool

-- what is written, and whether the catalog fails
pub record LintReport : Type 0 where
  pub text : Text
  pub has_failed : Bool

-- The report on files, with those of the reference before them. What comments leave out is as if it weren't found. The counts are of
-- all else, whether it is shown or not; apart from them, findings that are ignored are as if they weren't found either.
abbrev pub lint_report : Options → Output → List File → List File → LintReport
lint_report options o references files =
    let counts = shown_counts o.format o.counts (all_summaries references files (told options references files)) in
    let shown = reported options o.ignored references files in
    record {
      text = out.output o.format shown_width (report.shown o.notes shown) counts
          ++ totals o.format o.notes (length files) (entry_count files) shown;
      has_failed = report.has_failed o.strict shown;
    }

-- what text on findings of so many files ends with
abbrev pub found_ending : Format → Bool → ℕ → List FileFinding → Text
found_ending format notes files fs = if is_text format then totals_line notes files fs else []

abbrev pub found_text : Format → Bool → ℕ → List FileFinding → Text
found_text format notes files fs = out.output format shown_width (report.shown notes fs) [] ++ found_ending format notes files fs

-- the report on these findings of so many files, without those that are ignored
abbrev pub found_report : Output → ℕ → List FileFinding → LintReport
found_report o files fs =
    let shown = kept_of o.ignored fs in
    record { text = found_text o.format o.notes files shown; has_failed = report.has_failed o.strict shown }
