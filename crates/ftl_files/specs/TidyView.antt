-- What the code's values stand for.
use Rattle.std.specs.Prelude.{◌≡◌, ◌≢◌, Bool, List, Option, map, IfSome, Result, Ok, Err, String, option_copied, string_bytes}
use Rattle.std.specs.Global.{Global}
use denote.Ref.{Bor}
use Rattle.fluent_serve.specs.Text.{Text}
use Rattle.fluent_serve.specs.Texts.{texts}
use Rattle.fluent_tidy.specs.declared.tidy_error.TidyError.{TidyError}
use Rattle.ftl_files.specs.Files.{OnFile, State}
use Rattle.ftl_files.specs.States.{state_of}
use Rattle.ftl_files.specs.declared.folder.Folder.{Ghosts as FolderGhosts}
use Rattle.ftl_files.specs.declared.folder.Listing.{Listing}
use Rattle.ftl_files.specs.Listing.{listed_names}
use Rattle.lint_findings.specs.Files.{File}
use Rattle.ftl_files.specs.Reading as reading
use Rattle.ftl_files.specs.Tidying as tidying
use Rattle.ftl_files.specs.declared.reading.ReadSources.{ReadSources}
use Rattle.ftl_files.specs.declared.reading.SourceFile.{SourceFile}
use Rattle.ftl_files.specs.declared.ends.Failure.{Failure}
use Rattle.ftl_files.specs.declared.ends.Failure.TheVariants.{Unreadable, NotUtf8, Unwritable}
use Rattle.ftl_files.specs.declared.ends.FileEnd.{FileEnd}
use Rattle.ftl_files.specs.declared.ends.FileEnd.TheVariants.{Kept, Changed, Failed, Refused, OutOfMemory}
use Rattle.ftl_files.specs.Listed as listing
use Rattle.ftl_files.specs.declared.listed.Listed.{Listed}
use Rattle.ftl_files.specs.declared.tidied.TidiedFiles.{TidiedFiles}

abbrev pub failure_view : Failure → tidying.Failure
failure_view Unreadable = tidying.unreadable
failure_view NotUtf8 = tidying.not_utf8
failure_view Unwritable = tidying.unwritable

abbrev pub end_view : FileEnd → tidying.FileEnd
end_view Kept = tidying.kept
end_view (Changed text) = tidying.changed (string_bytes text)
end_view (Failed failure why) = tidying.failed (failure_view failure) (option_copied why)
end_view (Refused report) = tidying.refused (string_bytes report)
end_view (OutOfMemory report) = tidying.out_of_memory (string_bytes report)

-- what becomes of a source that was tidied so
abbrev pub IsEndBy : Text → Text → tidying.FileEnd → Type 0
IsEndBy text source tidying.kept = text ≡ source
IsEndBy text source (tidying.changed new) = (new ≡ text) × (new ≢ source)
IsEndBy text source (tidying.failed failure why) = ⊥
IsEndBy text source (tidying.refused report) = ⊥
IsEndBy text source (tidying.out_of_memory report) = ⊥

abbrev pub IsEndOf : Text → Text → Result (String Global) TidyError → tidying.FileEnd → Type 0
IsEndOf name source (Ok text) end = IsEndBy (string_bytes text) source end
IsEndOf name source (Err reason) end = tidying.IsRefusedFor name source reason end

abbrev pub listed_view : Listed → listing.Listed
listed_view l = record { names = map string_bytes l.names.items; errors = string_bytes l.errors; no_file = l.no_file }

abbrev pub said_view : TidiedFiles → tidying.Said
said_view t = record { names = string_bytes t.names; reports = string_bytes t.reports; reported = t.reported; has_found = t.has_found }

-- the line of a failure
abbrev pub failure_line_of : Text → Failure → Option (Bor Text) → Text
failure_line_of name failure why = tidying.failure_line name (tidying.failure_words (failure_view failure)) (option_copied why)

-- it is reported, too
abbrev pub after_failure : tidying.Said → Text → Failure → Option (Bor Text) → tidying.Said
after_failure said name failure why = tidying.with_report said (failure_line_of name failure why)

abbrev pub source_view : SourceFile → File
source_view f = record { name = string_bytes f.name; source = string_bytes f.source }

abbrev pub read_view : ReadSources → reading.Read
read_view r = record { files = map source_view r.files.items; errors = string_bytes r.errors; reported = r.reported }

abbrev pub after_source : reading.Read → Text → String Global → reading.Read
after_source read name source = reading.read_after read name (reading.held (string_bytes source))

-- what was read is refused with this report
abbrev pub after_refusal : reading.Read → Text → Text → Text → reading.Read
after_refusal read name source report = reading.read_after read name (reading.refused source report)

-- a source that was read is added, or refused
abbrev pub IsAddedTo : Text → Text → ReadSources → ReadSources → Type 0
IsAddedTo name source old new = reading.IsAddedRead name source (read_view old) (read_view new)

abbrev pub after_read_failure : reading.Read → Text → Failure → Option (Bor Text) → reading.Read
after_read_failure read name failure why = reading.read_after read name (reading.failed (failure_view failure) (option_copied why))

-- ---- the same on a folder, by what is known of it before and after

-- what was read of a file: a text, which is what it holds, if that is known, or why there is none
abbrev IsRead : Text → State → State → Result (String Global) Failure → Type 0
IsRead name before after (Ok text) = tidying.IsLeft before after × IfSome (before.contents name) (λ held. string_bytes text ≡ held)
IsRead name before after (Err failure) = reading.ReadFailsSo name (failure_view failure) before after

module _ {F : Type 0} (folders : FolderGhosts F) where
  abbrev pub IsReadOn : Text → F → F → Result (String Global) Failure → Type 0
  IsReadOn name before after read = IsRead name (state_of folders before) (state_of folders after) read

  -- a file holds a source that has this tidy text, and another
  abbrev pub HoldsUntidy : Text → F → String Global → Type 0
  HoldsUntidy name folder text = OnFile (folders.contents folder) name (λ source. tidying.IsSourceEnd name source (tidying.changed (string_bytes text)))

  -- what becomes of a file
  abbrev pub EndsOnFolder : Bool → Text → F → F → FileEnd → Type 0
  EndsOnFolder check name before after end = tidying.EndsSo check name (end_view end) (state_of folders before) (state_of folders after)

  -- files are gone through
  abbrev pub GoesThroughOn : Bool → List (Bor Text) → F → F → TidiedFiles → Type 0
  GoesThroughOn check names before after tidied =
      tidying.GoesThrough check (state_of folders before) (texts names) (said_view tidied) (state_of folders after)

  -- the first of them are
  abbrev pub GoesThroughFirstOn : Bool → List (Bor Text) → F → F → Type 0
  GoesThroughFirstOn check names before after =
      tidying.GoesThroughFirst check (texts names) (state_of folders before) (state_of folders after)

  -- a path is listed so, and several are
  abbrev pub IsListedOn : Text → F → F → Listing → Type 0
  IsListedOn path before after listed = listing.IsListedAs path (listed_names listed) (state_of folders before) (state_of folders after)

  abbrev pub AreListedOn : List (Bor Text) → F → F → Listed → Type 0
  AreListedOn paths before after listed = listing.AreListed (state_of folders before) (texts paths) (listed_view listed) (state_of folders after)

  -- the files that paths stand for are tidied, or the first of them
  abbrev pub AreTidiedOn : Bool → List (Bor Text) → F → F → TidiedFiles → Type 0
  AreTidiedOn check paths before after tidied =
      tidying.AreTidied check (texts paths) (state_of folders before) (state_of folders after) (said_view tidied)

  abbrev pub AreTidiedFirstOn : Bool → List (Bor Text) → F → F → Type 0
  AreTidiedFirstOn check paths before after = tidying.AreTidiedFirst check (texts paths) (state_of folders before) (state_of folders after)

  -- the files that paths stand for are read, and one after the other
  abbrev pub AreReadOn : List (Bor Text) → F → F → ReadSources → Type 0
  AreReadOn paths before after read = reading.AreRead (texts paths) (state_of folders before) (state_of folders after) (read_view read)

  abbrev pub ReadsThroughOn : List (Bor Text) → F → F → ReadSources → Type 0
  ReadsThroughOn names before after read =
      reading.ReadsThrough (state_of folders before) (texts names) (read_view read) (state_of folders after)

  abbrev pub ReadsOneOn : Text → F → F → ReadSources → ReadSources → Type 0
  ReadsOneOn name before after old new = reading.ReadsOne name (read_view old) (read_view new) (state_of folders before) (state_of folders after)
