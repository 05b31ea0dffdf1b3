-- Sources that are read, one after the other: which they are, and what is said of files that can't be read.
use Rattle.std.specs.Prelude.{◌≡◌, ◌⊎◌, List, [], ◌∷◌, ◌++◌, ⊤, Option, None, IfSome, IsUtf8}
use Rattle.fluent_serve.specs.Text.{Text}
use Rattle.lint_findings.specs.Files.{File}
use Rattle.ftl_files.specs.Depth.{IsDepthReport}
use Rattle.ftl_files.specs.Files.{State}
use Rattle.ftl_files.specs.Listed.{AreListed, Listed, each_once}
use Rattle.ftl_files.specs.Reported.{none_reported, with_failure, with_out_of_memory}
use Rattle.ftl_files.specs.declared.reported.Reported.{Reported}
use Rattle.ftl_files.specs.Tidying.{Failure, FailsSo, IsLeft, failure_line, failure_words, unreadable, not_utf8, unwritable}

-- ---- one file

-- what is read of a file
pub data ReadEnd : Type 0 where
  -- its source
  held : Text → ReadEnd
  -- its source nests too deep, and this is reported
  refused : Text → Text → ReadEnd
  -- it could not be read, and maybe why
  failed : Failure → Option Text → ReadEnd

-- a read doesn't fail to write
abbrev IsOfReading : Failure → Type 0
IsOfReading unreadable = ⊤
IsOfReading not_utf8 = ⊤
IsOfReading unwritable = ⊥

-- a read fails so
abbrev pub ReadFailsSo : Text → Failure → State → State → Type 0
ReadFailsSo name f before after = FailsSo name f before after × IsOfReading f

-- what is read of a file is what it holds, if that is known
abbrev pub ReadsSource : Text → Text → State → State → Type 0
ReadsSource name source before after = IsLeft before after × IfSome (before.contents name) (λ known. source ≡ known)

-- A source that nests too deep is refused.
abbrev pub ReadsSo : Text → ReadEnd → State → State → Type 0
ReadsSo name (held source) before after = ReadsSource name source before after
ReadsSo name (refused source report) before after = ReadsSource name source before after × IsDepthReport name source report
ReadsSo name (failed f why) before after = ReadFailsSo name f before after

-- ---- files one after the other

-- the files that were read, with their sources, and a line for each of the others
pub record Read : Type 0 where
  pub files : List File
  pub errors : Text
  -- which errors the lines report
  pub reported : Reported

abbrev pub nothing_read : Read
nothing_read = record { files = []; errors = []; reported = none_reported }

-- and after one more file
abbrev pub read_after : Read → Text → ReadEnd → Read
read_after r name (held source) = record r { files = r.files ++ record { name = name; source = source } ∷ [] }
read_after r name (refused source report) = record r { errors = r.errors ++ report; reported = with_out_of_memory r.reported }
read_after r name (failed f why) = record r { errors = r.errors ++ failure_line name (failure_words f) why; reported = with_failure r.reported }

-- and with the lines of the paths that stand for no file
abbrev pub read_of_listed : Read → Listed → Read
read_of_listed r l = record r { errors = r.errors ++ l.errors; reported = record r.reported { no_file = l.no_file } }

-- From a state of the folder files are read, one after the other, to another state.
pub data ReadsThrough (start : State) : List Text → Read → State → Type 0 where
  none_read : ReadsThrough start [] nothing_read start
  one_read : {names : List Text} {read : Read} {here : State} (name : Text) (end : ReadEnd) (there : State) → ReadsThrough start names read here
      → ReadsSo name end here there → ReadsThrough start (names ++ name ∷ []) (read_after read name end) there

-- The files that the paths stand for are read, each once.
pub record AreRead (paths : List Text) (before after : State) (read : Read) : Type 0 where
  pub listed : Listed
  pub middle : State
  pub lists : AreListed before paths listed middle
  pub done : Read
  pub through : ReadsThrough middle (each_once listed) done after
  pub is : read ≡ read_of_listed done listed

-- one file more is read
pub record ReadsOne (name : Text) (old new : Read) (before after : State) : Type 0 where
  pub end : ReadEnd
  pub so : ReadsSo name end before after
  pub is : new ≡ read_after old name end

-- A source that was read is held, or refused if it nests too deep.
abbrev pub IsAddedRead : Text → Text → Read → Read → Type 0
IsAddedRead name source old new =
    (new ≡ read_after old name (held source)) ⊎ ((report : Text) × (IsDepthReport name source report × (new ≡ read_after old name (refused source report))))

-- ---- a source that is in no file

-- What is read of bytes. If they are no text, that is only reported.
abbrev pub IsBytesEnd : Text → Text → ReadEnd → Type 0
IsBytesEnd name bytes (held source) = IsUtf8 bytes × (source ≡ bytes)
IsBytesEnd name bytes (refused source report) = IsUtf8 bytes × ((source ≡ bytes) × IsDepthReport name source report)
IsBytesEnd name bytes (failed f why) = (IsUtf8 bytes → ⊥) × ((f ≡ not_utf8) × (why ≡ None))

-- a source of this name and of these bytes is read after others
pub record ReadsBytes (name bytes : Text) (old new : Read) : Type 0 where
  pub end : ReadEnd
  pub right : IsBytesEnd name bytes end
  pub is : new ≡ read_after old name end
