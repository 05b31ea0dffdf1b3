-- What the program does for its words, and how far it came before a fault.
use Rattle.std.specs.Prelude.{◌≡◌, if◌then◌else◌, ℕ, Bool, List, [], ◌∷◌, ◌++◌, ⊤, false, Option, Some, None, IfSome, IsSomeAnd, option_map, Result, IfOk, OnOk, IsErrOf}
use Rattle.std.specs.List.{flat_map, list_any}
use Rattle.std.specs.Io.KnownBytes.{Appends, IsAtEnd}
use Rattle.fluent_value.specs.declared.function.NoFunction.{NoFunction}
use Rattle.fluent_serve.specs.Text.{Text, line_feed}
use Rattle.fluent_serve.specs.Frames.{Reply, answers, ended}
use Rattle.fluent_answers.specs.Answers.{line_answered}
use Rattle.fluent_serve.specs.Devices.{HasFailed}
use Rattle.fluent_serve.specs.Exchange.{Devices, devices, IsFrontOf, AnswersAll, AnswersFirst, AnswersWhole, AnswersFront}
use Rattle.fluent_serve.specs.Texts.{texts}
use Rattle.fluent_serve.specs.declared.stream.Sink.{Ghosts as SinkGhosts}
use Rattle.fluent_serve.specs.declared.stream.Source.{Ghosts as SourceGhosts}
use Rattle.fluent_run.specs.RunView.{no_text}
use denote.Ref.{Bor}
use Rattle.serde_json.specs.Data.{Data}
use Rattle.serde_json.specs.Read.{read as read_text}
use Rattle.serde_json.specs.Written.{compact_text}
use Rattle.fluent_grammar.specs.Tiling.{tree}
use Rattle.fluent_tidy_laws.specs.Cut.{cut}
use Rattle.fluent_tidy_laws.specs.Joined.{joined}
use Rattle.fluent_tidy_laws.specs.Tidied as tidying
use Rattle.fluent_tidy_laws.specs.Normal.{IsNormalText}
use Rattle.fluent_json.specs.Json.{json}
use Rattle.fluent_tidy.specs.Sources.{holds_return}
use Rattle.fluent_tidy.specs.Trees.{IsImported}
use Rattle.ftl_command.specs.Dated.{dated_for, has_date, settings_for}
use Rattle.ftl_command.specs.FormatView.{IsWrittenAs}
use Rattle.ftl_command.specs.Shown.{error_line, reply_asked}
use Rattle.ftl_command.specs.declared.message.Formatted.{Formatted}
use Rattle.fluent_check.specs.Report.{report_text}
use Rattle.ftl_arguments.specs.Version.{version_line}
use Rattle.ftl_arguments.specs.Meaning.{Asked, Run, Format, Tidy, run, format, check, lint, lint_input, lint_project, status, tidy_files, tidy_input, tidy, clean, normalize, join, export, import}
use Rattle.ftl_command.specs.Files.{OnFile, OnTexts}
use Rattle.ftl_command.specs.Faults.{end_status}
use Rattle.ftl_files.specs.Tidying.{FileEnd}
use Rattle.ftl_command.specs.Input.{OnBytes, OnInput, said_of, written_of}
use Rattle.ftl_command.specs.Plurals.{Rules, category_in, plurals_asked, rules_asked}
use Rattle.ftl_command.specs.declared.ended.Ended.{Ended}
use Rattle.ftl_command.specs.declared.running.RunOptions.{RunOptions}
use Rattle.ftl_command.specs.declared.ended.Ended.TheVariants.{Done, Found}
pub use Rattle.ftl_command.specs.Reported.{EndsBy, errors_in}
use Rattle.ftl_command.specs.declared.fault.Fault.{Fault}
use Rattle.ftl_command.specs.declared.fault.Fault.TheVariants.{Input, Output, Memory}
use Rattle.ftl_files.specs.declared.folder.Folder.{Ghosts as FolderGhosts}

-- ---- a run

-- a run with these options, on these files
abbrev pub run_of : RunOptions → List (Bor Text) → Run
run_of o files =
    record { isolating = o.isolating; overriding = o.overriding; locale = option_map (λ l. l.now) o.locale; plain_numbers = o.plain_numbers; files = texts files }

-- what such a run asks for
abbrev pub run_asked : RunOptions → List (Bor Text) → Option Asked
run_asked o files = Some (run (run_of o files))

-- what is written for a line, from sources, by these rules of a locale
abbrev pub line_for : Rules → Run → List Text → Text → Text
line_for by r sources =
    line_answered NoFunction (category_in by.plurals) no_text (record { isolating = r.isolating; overriding = r.overriding; numerals = by.numerals }) sources

-- the outcome holds of the answers from the files' texts by a locale's rules: of what is written for a line
abbrev pub OnRunBy : Rules → (Text → Option Text) → Run → ((Text → Text) → Type 0) → Type 0
OnRunBy by contents r Outcome = OnTexts contents r.files (λ sources. Outcome (line_for by r sources))

-- the locale that is asked for has plural rules, or none is, and the outcome holds of the answers by those
abbrev pub OnRun : (Text → Option Text) → Run → ((Text → Text) → Type 0) → Type 0
OnRun contents r Outcome = IsSomeAnd (rules_asked r.plain_numbers r.locale) (λ by. OnRunBy by contents r Outcome)

-- The answers to all of the input are written, and nothing else. Of a reader whose bytes aren't known: to those that it gave.
pub record Answered (d : Devices) (line : Text → Text) : Type 0 where
  pub exact : IfSome d.left_before (λ input. Appends d.held_before d.held_after (answers line input))
  pub given : AnswersAll d line
  pub end : IsAtEnd d.left_after

-- Of whatever the sources are tidied into, what is written is the answers too.
abbrev pub AnsweredAlike : Devices → Rules → Run → List Text → Type 0
AnsweredAlike d by r sources = (others : List Text) → tidying.Tidied sources others → IfSome d.left_before (λ input. Appends d.held_before d.held_after (answers (line_for by r others) input))

-- so it is of the files' texts, by the rules of the locale that is asked for
abbrev pub OnRunAlike : (Text → Option Text) → Devices → Run → Type 0
OnRunAlike contents d r = IsSomeAnd (rules_asked r.plain_numbers r.locale) (λ by. OnTexts contents r.files (AnsweredAlike d by r))

-- what became of a run on files, by how it ended; `failed` says that the input failed
pub record RunEnds (contents : Text → Option Text) (d : Devices) (failed : Type 0) (r : Run) (result : Result Ended Fault) : Type 0 where
  pub answered : OnOk result (OnRun contents r (Answered d))
  -- of whatever the sources are tidied into, what is written is the answers too
  pub tidied : OnOk result (OnRunAlike contents d r)
  -- what was answered before a fault stays written
  pub memory : IsErrOf result Memory → OnRun contents r (AnswersFirst d)
  pub input : IsErrOf result Input → OnRun contents r (λ line. AnswersWhole d line failed 4294967296)
  pub output : IsErrOf result Output → OnRun contents r (AnswersFront d)

-- so it is on a folder, a reader and a writer, by what is known of them
abbrev pub RunEndsOn : {F R W : Type 0} → FolderGhosts F → F → SourceGhosts R → R → R → SinkGhosts W → W → W → Run → Result Ended Fault → Type 0
RunEndsOn folders folder source reader reader' sink writer writer' r result =
    RunEnds (folders.contents folder) (devices source.remaining reader reader' sink.contents writer writer') (HasFailed (source.failures reader) (source.failures reader')) r result

-- ---- a text that is written

-- a text is written, and nothing else
abbrev pub Writes : Devices → Text → Type 0
Writes d text = Appends d.held_before d.held_after text

-- a front of it is
pub record WritesFront (before after : Option Text) (text : Text) : Type 0 where
  pub given : Text
  pub written : Appends before after given
  pub front : IsFrontOf given text

-- The line of the version is written, or, if the output failed, a front of it.
pub record ShowsVersion (before after : Option Text) (result : Result Ended Fault) : Type 0 where
  pub shown : OnOk result (Appends before after version_line)
  pub output : IsErrOf result Output → WritesFront before after version_line

-- so it is on a writer, by what is known of it
abbrev pub ShowsVersionOn : {W : Type 0} → SinkGhosts W → W → W → Result Ended Fault → Type 0
ShowsVersionOn sink writer writer' result = ShowsVersion (sink.contents writer) (sink.contents writer') result

-- a report is written; without a line the sources are fine
abbrev pub end_by : Text → Ended
end_by [] = Done
end_by (b ∷ bs) = Found

-- the outcome holds of the report on the files' texts
abbrev pub OnReport : (Text → Option Text) → List Text → (Text → Type 0) → Type 0
OnReport contents files Outcome = OnTexts contents files (λ sources. Outcome (report_text sources))

-- a text is that report
abbrev pub IsReport : (Text → Option Text) → List Text → Text → Type 0
IsReport contents files text = OnReport contents files (λ report. text ≡ report)

-- what became of a check, by how it ended
pub record CheckEnds {F W : Type 0} (folders : FolderGhosts F) (folder : F) (files : List Text) (sink : SinkGhosts W) (writer writer' : W) (result : Result Ended Fault) : Type 0 where
  pub checked : IfOk result (λ end. OnReport (folders.contents folder) files (λ text. Appends (sink.contents writer) (sink.contents writer') text × (end ≡ end_by text)))
  -- a front of the report is written
  pub output : IsErrOf result Output → OnReport (folders.contents folder) files (WritesFront (sink.contents writer) (sink.contents writer'))

-- ---- the text of a message

-- What the sources have for the message, by these rules of a locale. If no date is among the arguments, it is what a run answers with.
abbrev pub reply_for : Rules → Format → List Text → Option Reply
reply_for by f sources =
    if has_date f.request.arguments
    then dated_for by f sources
    else reply_asked NoFunction (category_in by.plurals) no_text (settings_for by f) sources f.request

-- The locale that is asked for has plural rules, or none is, and the outcome holds of what the files' texts have for the message by
-- those.
abbrev pub OnFound : (Text → Option Text) → Format → (Option Reply → Type 0) → Type 0
OnFound contents f Outcome = IsSomeAnd (rules_asked f.plain_numbers f.locale) (λ by. OnTexts contents f.files (λ sources. Outcome (reply_for by f sources)))

-- the code's text and lines are those that are written of it, if it is there
abbrev pub IsFound : (Text → Option Text) → Format → Option Formatted → Type 0
IsFound contents f formatted = OnFound contents f (λ found. IsWrittenAs found formatted)

-- there is such a message, with such a value or attribute, and the outcome holds of its text and errors
abbrev pub OnReply : (Text → Option Text) → Format → (Reply → Type 0) → Type 0
OnReply contents f Outcome = OnFound contents f (λ found. IsSomeAnd found Outcome)

-- the status of a text with these errors, or with these lines of them: 0 if there are none
abbrev pub status_by : {X : Type 0} → List X → ℕ
status_by [] = 0
status_by (x ∷ xs) = 1

-- an end reports a line for each error, and has the status of them
abbrev pub EndsWith : List Text → Ended → Type 0
EndsWith errors end = (errors_in end ≡ flat_map error_line errors) × (end_status end ≡ status_by errors)

-- what became of formatting, by how it ended
pub record FormatEnds {F W : Type 0} (folders : FolderGhosts F) (folder : F) (f : Format) (sink : SinkGhosts W) (writer writer' : W) (result : Result Ended Fault) : Type 0 where
  pub written : IfOk result (λ end. OnReply (folders.contents folder) f (λ reply. Appends (sink.contents writer) (sink.contents writer') (ended reply.text) × EndsWith reply.errors end))
  -- a front of the text is written
  pub output : IsErrOf result Output → OnReply (folders.contents folder) f (λ reply. WritesFront (sink.contents writer) (sink.contents writer') (ended reply.text))

-- the compact JSON text of a value, and a line feed
abbrev pub data_line : Data → Text
data_line value = compact_text value ++ line_feed ∷ []

-- that of a cut source's tree
abbrev pub json_line : Text → Text
json_line source = data_line (json (tree (cut source)))

-- a JSON text whose value is imported as a text
pub record Imports (source text : Text) : Type 0 where
  pub value : Data
  pub read : read_text source ≡ Some value
  pub imported : IsImported value text

-- a JSON text whose value fits
pub record OnValue (source : Text) (Outcome : Data → Type 0) : Type 0 where
  pub value : Data
  pub read : read_text source ≡ Some value
  pub outcome : Outcome value

-- the outcome holds of the source in a file, which has no carriage return
abbrev pub OnSource : (Text → Option Text) → Text → (Text → Type 0) → Type 0
OnSource contents file Outcome = OnFile contents file (λ source. (holds_return source ≡ false) × Outcome source)

-- and of the sources in several
abbrev pub OnSources : (Text → Option Text) → List Text → (List Text → Type 0) → Type 0
OnSources contents files Outcome = OnTexts contents files (λ sources. (list_any holds_return sources ≡ false) × Outcome sources)

-- what sources are tidied into; a file with a JSON tree is no source
abbrev pub Tidies : (Text → Option Text) → Tidy → Text → Type 0
Tidies contents (clean file) text = OnSource contents file (λ source. text ≡ cut source)
Tidies contents (normalize file) text = OnSource contents file (λ source. IsNormalText source text)
Tidies contents (join files) text = OnSources contents files (λ sources. text ≡ joined sources)
Tidies contents (export file) text = OnSource contents file (λ source. text ≡ json_line source)
Tidies contents (import file) text = OnFile contents file (λ source. Imports source text)

-- the outcome holds of it
pub record Tidied (contents : Text → Option Text) (t : Tidy) (Outcome : Text → Type 0) : Type 0 where
  pub text : Text
  pub tidies : Tidies contents t text
  pub outcome : Outcome text

-- what became of tidying, by how it ended
pub record TidyEnds {F W : Type 0} (folders : FolderGhosts F) (folder : F) (t : Tidy) (sink : SinkGhosts W) (writer writer' : W) (result : Result Ended Fault) : Type 0 where
  pub written : OnOk result (Tidied (folders.contents folder) t (Appends (sink.contents writer) (sink.contents writer')))
  -- a front of the text is written
  pub output : IsErrOf result Output → Tidied (folders.contents folder) t (WritesFront (sink.contents writer) (sink.contents writer'))

-- ---- standard input that is tidied

-- what became of bytes is written, by how that ended
pub record WritesEnd (checked : Bool) (bytes : Text) (end : FileEnd) (held held_after : Option Text) (result : Result Ended Fault) : Type 0 where
  pub ended : IfOk result (EndsBy (said_of checked end))
  pub written : OnOk result (Appends held held_after (written_of checked bytes end))
  -- a front of it is
  pub front : IsErrOf result Output → WritesFront held held_after (written_of checked bytes end)

-- so it is on a writer, by what is known of it
abbrev pub WritesEndOn : {W : Type 0} → SinkGhosts W → W → W → Bool → Text → FileEnd → Result Ended Fault → Type 0
WritesEndOn sink writer writer' checked bytes end result = WritesEnd checked bytes end (sink.contents writer) (sink.contents writer') result

-- bytes are tidied to a writer, by how that ended
pub record BytesEnd (checked : Bool) (bytes : Text) (held held_after : Option Text) (result : Result Ended Fault) : Type 0 where
  pub done : IfOk result (λ end. OnBytes checked bytes (λ text said. Appends held held_after text × EndsBy said end))
  -- a front of the text is written
  pub output : IsErrOf result Output → OnBytes checked bytes (λ text said. WritesFront held held_after text)

-- so it is on a writer, by what is known of it
abbrev pub BytesEndOn : {W : Type 0} → SinkGhosts W → W → W → Bool → Text → Result Ended Fault → Type 0
BytesEndOn sink writer writer' checked bytes result = BytesEnd checked bytes (sink.contents writer) (sink.contents writer') result

-- all of the input is read, and its tidy text or, if it is checked, what is said of it is written
abbrev pub TidiesInput : Devices → Bool → Ended → Type 0
TidiesInput d checked end = OnInput d.left_before d.left_after checked (λ text said. Writes d text × EndsBy said end)

-- a front of that is written
abbrev pub TidiesInputFirst : Devices → Bool → Type 0
TidiesInputFirst d checked = OnInput d.left_before d.left_after checked (λ text said. WritesFront d.held_before d.held_after text)

-- what became of the input, by how it ended
pub record InputEnds (d : Devices) (checked : Bool) (result : Result Ended Fault) : Type 0 where
  pub done : IfOk result (TidiesInput d checked)
  -- nothing is written
  pub memory : IsErrOf result Memory → d.held_after ≡ d.held_before
  pub input : IsErrOf result Input → d.held_after ≡ d.held_before
  pub output : IsErrOf result Output → TidiesInputFirst d checked

-- so it is on a reader and a writer, by what is known of them
abbrev pub InputEndsOn : {R W : Type 0} → SourceGhosts R → R → R → SinkGhosts W → W → W → Bool → Result Ended Fault → Type 0
InputEndsOn source reader reader' sink writer writer' checked result =
    InputEnds (devices source.remaining reader reader' sink.contents writer writer') checked result

-- ---- what the words ask for; with nothing asked for, help or the version is shown

-- it is done, and the program ends so
abbrev pub IsDone : (Text → Option Text) → Devices → Option Asked → Ended → Type 0
IsDone contents d None end = end ≡ Done
IsDone contents d (Some (run r)) end = (end ≡ Done) × OnRun contents r (Answered d)
IsDone contents d (Some (format f)) end = OnReply contents f (λ reply. Writes d (ended reply.text) × EndsWith reply.errors end)
IsDone contents d (Some (check files)) end = OnReport contents files (λ text. Writes d text × (end ≡ end_by text))
-- of these `InPlace.FilesEnd` says what became
IsDone contents d (Some (lint l)) end = ⊤
IsDone contents d (Some (lint_input l)) end = ⊤
IsDone contents d (Some (lint_project l)) end = ⊤
IsDone contents d (Some (status s)) end = ⊤
IsDone contents d (Some (tidy_files t)) end = ⊤
IsDone contents d (Some (tidy_input checked)) end = TidiesInput d checked end
IsDone contents d (Some (tidy t)) end = (end ≡ Done) × Tidied contents t (Writes d)

-- a run is answered alike from tidied sources
abbrev pub IsDoneAlike : (Text → Option Text) → Devices → Option Asked → Type 0
IsDoneAlike contents d None = ⊤
IsDoneAlike contents d (Some (run r)) = OnRunAlike contents d r
IsDoneAlike contents d (Some (format f)) = ⊤
IsDoneAlike contents d (Some (check files)) = ⊤
IsDoneAlike contents d (Some (lint l)) = ⊤
IsDoneAlike contents d (Some (lint_input l)) = ⊤
IsDoneAlike contents d (Some (lint_project l)) = ⊤
IsDoneAlike contents d (Some (status s)) = ⊤
IsDoneAlike contents d (Some (tidy_files t)) = ⊤
IsDoneAlike contents d (Some (tidy_input checked)) = ⊤
IsDoneAlike contents d (Some (tidy t)) = ⊤

-- the first lines of a run are answered by these rules; if the locale has none, nothing is written
abbrev pub AnswersFirstBy : Option Rules → (Text → Option Text) → Devices → Run → Type 0
AnswersFirstBy None contents d r = d.held_after ≡ d.held_before
AnswersFirstBy (Some by) contents d r = OnRunBy by contents r (AnswersFirst d)

-- memory ran out: the first lines of a run are answered, and of another command nothing is written
abbrev pub AfterMemory : (Text → Option Text) → Devices → Option Asked → Type 0
AfterMemory contents d None = d.held_after ≡ d.held_before
AfterMemory contents d (Some (run r)) = AnswersFirstBy (rules_asked r.plain_numbers r.locale) contents d r
AfterMemory contents d (Some (format f)) = d.held_after ≡ d.held_before
AfterMemory contents d (Some (check files)) = d.held_after ≡ d.held_before
AfterMemory contents d (Some (lint l)) = d.held_after ≡ d.held_before
AfterMemory contents d (Some (lint_input l)) = d.held_after ≡ d.held_before
AfterMemory contents d (Some (lint_project l)) = d.held_after ≡ d.held_before
AfterMemory contents d (Some (status s)) = d.held_after ≡ d.held_before
AfterMemory contents d (Some (tidy_files t)) = d.held_after ≡ d.held_before
AfterMemory contents d (Some (tidy_input checked)) = d.held_after ≡ d.held_before
AfterMemory contents d (Some (tidy t)) = d.held_after ≡ d.held_before

-- the input failed, or came to no end: all whole lines of a run are answered, and nothing is written if it is to be tidied or linted;
-- another command reads no input
abbrev pub AfterInput : (Text → Option Text) → Devices → Type 0 → Option Asked → Type 0
AfterInput contents d Failed None = ⊥
AfterInput contents d Failed (Some (run r)) = OnRun contents r (λ line. AnswersWhole d line Failed 4294967296)
AfterInput contents d Failed (Some (format f)) = ⊥
AfterInput contents d Failed (Some (check files)) = ⊥
AfterInput contents d Failed (Some (lint l)) = ⊥
AfterInput contents d Failed (Some (lint_input l)) = d.held_after ≡ d.held_before
AfterInput contents d Failed (Some (lint_project l)) = ⊥
AfterInput contents d Failed (Some (status s)) = ⊥
AfterInput contents d Failed (Some (tidy_files t)) = ⊥
AfterInput contents d Failed (Some (tidy_input checked)) = d.held_after ≡ d.held_before
AfterInput contents d Failed (Some (tidy t)) = ⊥

-- the output failed: a front of what was to be written is
abbrev pub AfterOutput : (Text → Option Text) → Devices → Option Asked → Type 0
AfterOutput contents d None = ⊤
AfterOutput contents d (Some (run r)) = OnRun contents r (AnswersFront d)
AfterOutput contents d (Some (format f)) = OnReply contents f (λ reply. WritesFront d.held_before d.held_after (ended reply.text))
AfterOutput contents d (Some (check files)) = OnReport contents files (WritesFront d.held_before d.held_after)
AfterOutput contents d (Some (lint l)) = ⊤
AfterOutput contents d (Some (lint_input l)) = ⊤
AfterOutput contents d (Some (lint_project l)) = ⊤
AfterOutput contents d (Some (status s)) = ⊤
AfterOutput contents d (Some (tidy_files t)) = ⊤
AfterOutput contents d (Some (tidy_input checked)) = TidiesInputFirst d checked
AfterOutput contents d (Some (tidy t)) = Tidied contents t (WritesFront d.held_before d.held_after)

-- What became of a command, by how it ended. `failed` says that the input failed.
pub record CommandEnds (contents : Text → Option Text) (d : Devices) (failed : Type 0) (asked : Option Asked) (result : Result Ended Fault) : Type 0 where
  pub done : IfOk result (IsDone contents d asked)
  pub tidied : OnOk result (IsDoneAlike contents d asked)
  -- what was written before a fault stays written
  pub memory : IsErrOf result Memory → AfterMemory contents d asked
  pub input : IsErrOf result Input → AfterInput contents d failed asked
  pub output : IsErrOf result Output → AfterOutput contents d asked

-- so it is on a folder, a reader and a writer, by what is known of them
abbrev pub CommandEndsOn : {F R W : Type 0} → FolderGhosts F → F → SourceGhosts R → R → R → SinkGhosts W → W → W → Option Asked → Result Ended Fault → Type 0
CommandEndsOn folders folder source reader reader' sink writer writer' asked result =
    CommandEnds (folders.contents folder) (devices source.remaining reader reader' sink.contents writer writer') (HasFailed (source.failures reader) (source.failures reader')) asked result

-- a fact about what commands without input leave as it was
abbrev pub WithoutInput : Option Asked → Type 0 → Type 0
WithoutInput None Fact = Fact
WithoutInput (Some (run r)) Fact = ⊤
WithoutInput (Some (format f)) Fact = Fact
WithoutInput (Some (check files)) Fact = Fact
WithoutInput (Some (lint l)) Fact = Fact
WithoutInput (Some (lint_input l)) Fact = ⊤
WithoutInput (Some (lint_project l)) Fact = Fact
WithoutInput (Some (status s)) Fact = Fact
WithoutInput (Some (tidy_files t)) Fact = Fact
WithoutInput (Some (tidy_input checked)) Fact = ⊤
WithoutInput (Some (tidy t)) Fact = Fact

-- a fact about commands that stop at the first file that can't be read, and one about those that list folders, and go on after it
abbrev pub ByListing : Option Asked → Type 0 → Type 0 → Type 0
ByListing None Stops Lists = Stops
ByListing (Some (run r)) Stops Lists = Stops
ByListing (Some (format f)) Stops Lists = Stops
ByListing (Some (check files)) Stops Lists = Stops
ByListing (Some (lint l)) Stops Lists = Lists
ByListing (Some (lint_input l)) Stops Lists = Lists
ByListing (Some (lint_project l)) Stops Lists = Lists
ByListing (Some (status s)) Stops Lists = Lists
ByListing (Some (tidy_files t)) Stops Lists = Lists
ByListing (Some (tidy_input checked)) Stops Lists = Stops
ByListing (Some (tidy t)) Stops Lists = Stops

-- a fact about those that don't list folders
abbrev pub UnlessListed : Option Asked → Type 0 → Type 0
UnlessListed asked Fact = ByListing asked Fact ⊤

-- ---- the files that the words name

abbrev pub files_of : Tidy → List Text
files_of (clean file) = file ∷ []
files_of (normalize file) = file ∷ []
files_of (join files) = files
files_of (export file) = file ∷ []
files_of (import file) = file ∷ []

abbrev pub files_named : Option Asked → List Text
files_named None = []
files_named (Some (run r)) = r.files
files_named (Some (format f)) = f.files
files_named (Some (check files)) = files
files_named (Some (lint l)) = []
files_named (Some (lint_input l)) = []
files_named (Some (lint_project l)) = []
files_named (Some (status s)) = []
files_named (Some (tidy_files t)) = []
files_named (Some (tidy_input checked)) = []
files_named (Some (tidy t)) = files_of t

-- ---- the locale that they name

abbrev pub locale_named : Option Asked → Option Text
locale_named None = None
locale_named (Some (run r)) = r.locale
locale_named (Some (format f)) = f.locale
locale_named (Some (check files)) = None
locale_named (Some (lint l)) = l.locale
locale_named (Some (lint_input l)) = l.locale
locale_named (Some (lint_project l)) = None
locale_named (Some (status s)) = None
locale_named (Some (tidy_files t)) = None
locale_named (Some (tidy_input checked)) = None
locale_named (Some (tidy t)) = None

-- Nothing is asked for, or a run or a message by a locale without plural rules. When the status of files that are linted or tidied in place
-- is 2, `InPlace.FilesEnd` says, and of a locale without plural rules `SaysUnknown` does.
abbrev pub IsRefused : Option Asked → Type 0
IsRefused None = ⊤
IsRefused (Some (run r)) = plurals_asked r.locale ≡ None
IsRefused (Some (format f)) = plurals_asked f.locale ≡ None
IsRefused (Some (check files)) = ⊥
IsRefused (Some (lint l)) = ⊤
IsRefused (Some (lint_input l)) = ⊤
IsRefused (Some (lint_project l)) = ⊤
IsRefused (Some (status s)) = ⊤
IsRefused (Some (tidy_files t)) = ⊤
IsRefused (Some (tidy_input checked)) = ⊥
IsRefused (Some (tidy t)) = ⊥
