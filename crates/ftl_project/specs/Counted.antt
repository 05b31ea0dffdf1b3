-- What is counted in a file, in a language and in all.
use Rattle.std.specs.Prelude.{◌≡◌, List, [], ◌∷◌, Option, None, Some, map}
use Rattle.fluent_lint.specs.Table.{both_counts, counts, no_counts}
use Rattle.fluent_lint.specs.Translated.{translated_of}
use Rattle.fluent_lint.specs.declared.original.Messages.{Messages}
use Rattle.fluent_lint.specs.declared.table.Counts.{Counts}
use Rattle.lint_findings.specs.View.{findings_view}
use Rattle.lint_findings.specs.declared.records.FileFindings.{FileFindings}
use Rattle.ftl_project.specs.declared.language.Linted.{Linted}
use Rattle.ftl_project.specs.declared.language.LintedFile.{LintedFile}

-- these counts and those after them together
abbrev pub and_all : Counts → List Counts → Counts
and_all sum [] = sum
and_all sum (c ∷ cs) = and_all (both_counts sum c) cs

-- of the findings of one file, with these numbers of messages
abbrev pub file_counts : FileFindings → Messages → Counts
file_counts found messages = counts (findings_view (found ∷ [])) messages

-- of files, and of languages
abbrev pub counts_in : List LintedFile → Counts
counts_in files = and_all no_counts (map (λ (f : LintedFile). f.counts) files)

abbrev pub counts_in_all : List Linted → Counts
counts_in_all languages = and_all no_counts (map (λ (l : Linted). l.counts) languages)

-- with what is found of the language as a whole
abbrev pub whole_counts : Counts → Option FileFindings → Counts
whole_counts files None = files
whole_counts files (Some whole) = both_counts files (file_counts whole (translated_of 0))

-- The counts of a language are those of its files together, with what is found of it as a whole.
abbrev pub IsCounted : Linted → Type 0
IsCounted l = l.counts ≡ whole_counts (counts_in l.files.items) l.whole
