-- What is known of a reference.
use Rattle.std.specs.Prelude.{◌≡◌, ℕ, List, [], Option, length, map, option_map}
use Rattle.std.specs.List.{slice_get}
use Rattle.std.specs.Option.{option_map_or}
use Rattle.lint_findings.specs.View.{file_view, finding_view, findings_view}
use Rattle.lint_findings.specs.declared.records.File.{File}
use Rattle.lint_findings.specs.declared.records.FileFindings.{FileFindings}
use Rattle.lint_findings.specs.Files as f
use Rattle.fluent_grammar.specs.Words.{Text}
use Rattle.fluent_lint.specs.FileTiles.{files_of, files_view}
use Rattle.fluent_lint.specs.Own.{AreOwn}
use Rattle.fluent_lint.specs.Pairs.{message_ids}
use Rattle.fluent_lint.specs.Reading.{IsRead}
use Rattle.fluent_lint.specs.Reported.{found}
use Rattle.fluent_lint.specs.Reports.{options_view}
use Rattle.fluent_lint.specs.Translated.{FileFound, original_view}
use Rattle.fluent_lint.specs.declared.pairs.OriginalFile.{OriginalFile}
use Rattle.fluent_lint.specs.declared.reference.ReferenceCatalog.{ReferenceCatalog}
use Rattle.fluent_lint.specs.declared.reports.Options.{Options}

-- a file with what is found in it
abbrev pub file_found : FileFindings → FileFound
file_found f = record { file = file_view f.file; findings = map finding_view f.findings.items }

abbrev pub files_found : List FileFindings → List FileFound
files_found fs = map file_found fs

-- the files of findings
abbrev pub named_by : List FileFindings → List File
named_by fs = map (λ (f : FileFindings). f.file) fs

-- these are the findings of a catalog by itself, file by file
pub record AreFoundAlone (o : Options) (files : List File) (these : List FileFindings) : Type 0 where
  pub found : findings_view these ≡ found (options_view o) [] (files_view files)
  pub named : named_by these ≡ files

-- what is known of the files of a reference is right
pub record IsReference (reference : ReferenceCatalog) : Type 0 where
  pub is_read : IsRead reference.read.now
  pub tiles : files_of reference.own.tiles.items ≡ reference.read.now.files.now
  pub are_own : AreOwn reference.own
  pub found : AreFoundAlone reference.options reference.read.now.files.now reference.found.items

-- the number of messages of the file at this index, if there is one
abbrev pub counted_at : List f.File → ℕ → ℕ
counted_at files i = option_map_or (λ (file : f.File). length (message_ids file)) (slice_get files i) 0

-- and their ids
abbrev pub ids_at : List f.File → ℕ → List Text
ids_at files i = option_map_or message_ids (slice_get files i) []

-- it is that of these at this index, if there is one
abbrev pub IsFileAt : List FileFindings → ℕ → Option OriginalFile → Type 0
IsFileAt these i found = option_map original_view found ≡ slice_get (files_found these) i
