-- How the program ends, by what is known of its devices.
use Rattle.std.specs.Prelude.{◌≡◌, ◌⊎◌, ℕ, Bool, Contains, List, [], ◌∷◌, Option, None, Result, Ok, Err, IfOk, OnOk, IfErr, IsErrOf, string_bytes}
use Rattle.std.specs.Io.KnownBytes.{Appends}
use Rattle.fluent_serve.specs.Text.{Text}
use Rattle.fluent_serve.specs.Devices.{HasFailed}
use Rattle.fluent_serve.specs.Exchange.{Devices, devices_of}
use Rattle.fluent_serve.specs.declared.stream.Sink.{Ghosts as SinkGhosts}
use Rattle.fluent_serve.specs.declared.stream.Source.{Ghosts as SourceGhosts}
use Rattle.ftl_arguments.specs.Meaning.{AskForText, AskForHelpAlone, AskForVersionAlone, command_of}
use Rattle.ftl_command.specs.declared.ended.Ended.{Ended}
use Rattle.ftl_command.specs.declared.ended.Ended.TheVariants.{Done, Found, Incomplete, NoFile, Partial, OutOfMemory}
use Rattle.ftl_command.specs.declared.fault.Fault.{Fault}
use Rattle.ftl_command.specs.declared.fault.Fault.TheVariants.{Input, Output, Memory}
use Rattle.ftl_command.specs.declared.terminals.Terminals.{Terminals}
use Rattle.ftl_files.specs.Files.{State}
use Rattle.ftl_files.specs.States.{state_of}
use Rattle.ftl_files.specs.declared.folder.Folder.{Ghosts as FolderGhosts}
use Rattle.ftl_command.specs.InPlace.{FilesEnd}
use Rattle.ftl_command.specs.Faults.{outcome_status, fault_line, IsBadLine, IsBeforeInput, IsShownReason, SaysUnknown, said}
use Rattle.ftl_command.specs.Terminals.{explains}
use Rattle.ftl_command.specs.Program.{IsDone, IsRefused, AfterMemory, AfterInput, AfterOutput, WithoutInput, UnlessListed, ShowsVersion, WritesFront, locale_named}
use Rattle.ftl_command.specs.Refusals.{IsRight, SaysOfNamed}

-- What a status tells of the words.
pub record IsStatusOf (colours : Bool) (words : List Text) (status : ℕ) : Type 0 where
  pub among : Contains (0 ∷ 1 ∷ 2 ∷ 3 ∷ 4 ∷ []) status
  -- they are refused, and ask neither for help alone nor for the version alone
  pub refused : status ≡ 2 → IsRefused (command_of colours words)
  pub not_help : status ≡ 2 → ¬ AskForHelpAlone words
  pub not_version : status ≡ 2 → ¬ AskForVersionAlone words
  -- they name a command, or ask for one of the texts
  pub served : status ≡ 0 → command_of colours words ≡ None → AskForText words

-- A device before and after: its bytes, if they are known, and how many of its calls have failed.
pub record Seen : Type 0 where
  pub before : Option Text
  pub after : Option Text
  pub failures_before : ℕ
  pub failures_after : ℕ

-- by what is known of the device
abbrev pub seen : {D : Type 0} → (D → Option Text) → (D → ℕ) → D → D → Seen
seen bytes failures before after =
    record { before = bytes before; after = bytes after; failures_before = failures before; failures_after = failures after }

-- what became of a reader and a writer
abbrev pub exchanged : Seen → Seen → Devices
exchanged input output = devices_of input.before input.after output.before output.after

-- no call of the device failed
abbrev pub Works : Seen → Type 0
Works s = s.failures_after ≡ s.failures_before

-- nothing was read or written
abbrev pub IsUntouched : Seen → Type 0
IsUntouched s = (s.after ≡ s.before) × Works s

-- The text is written; or a write failed, and a front of it is.
abbrev pub WritesOrFails : Seen → Text → Type 0
WritesOrFails s text =
    (Appends s.before s.after text × Works s) ⊎ (WritesFront s.before s.after text × HasFailed s.failures_before s.failures_after)

-- what went wrong in a text is reported, and of another end nothing is
abbrev pub ReportsErrors : Seen → Ended → Type 0
ReportsErrors s Done = IsUntouched s
ReportsErrors s Found = IsUntouched s
ReportsErrors s (Incomplete errors) = WritesOrFails s (string_bytes errors)
ReportsErrors s (NoFile errors) = WritesOrFails s (string_bytes errors)
ReportsErrors s (Partial errors) = WritesOrFails s (string_bytes errors)
ReportsErrors s (OutOfMemory errors) = WritesOrFails s (string_bytes errors)

-- a fault is reported on one line, and after it what is shown of why it came
pub record ReportsFault (shown : Bool) (s : Seen) (fault : Fault) : Type 0 where
  pub reason : Text
  pub right : IsShownReason shown fault reason
  pub reports : WritesOrFails s (said fault reason)

-- and nothing else is
abbrev pub Reports : Bool → Seen → Result Ended Fault → Type 0
Reports shown s (Ok end) = ReportsErrors s end
Reports shown s (Err fault) = ReportsFault shown s fault

-- The status, and the line of a fault, are those that the command results in; and these are right, by what is known of
-- the files before and after.
pub record Ends (before after : State) (input output faults : Seen) (screens : Terminals) (words : List Text) (status : ℕ) : Type 0 where
  pub outcome : Result Ended Fault
  pub exact : status ≡ outcome_status outcome
  pub reports : Reports (explains screens words) faults outcome
  -- without a fault all is done
  pub done : IfOk outcome (IsDone before.contents (exchanged input output) (command_of screens.colours words))
  pub text : OnOk outcome (command_of screens.colours words ≡ None → AskForText words)
  pub version : AskForVersionAlone words → ShowsVersion output.before output.after outcome
  pub opens : OnOk outcome (UnlessListed (command_of screens.colours words) (after.failures ≡ before.failures))
  pub reads : OnOk outcome (Works input)
  pub writes : OnOk outcome (Works output)
  -- files that are tidied in place hold their tidy texts, and no other changes; what is linted or only read holds what it held
  pub of_files : FilesEnd (command_of screens.colours words) before after (exchanged input output) outcome
  pub no_input : WithoutInput (command_of screens.colours words) (IsUntouched input)
  -- what a fault says is so, and before the words and all files are read nothing else is read or written
  pub refused : IfErr outcome (λ fault. IsBadLine fault → command_of screens.colours words ≡ None)
  pub not_help : IfErr outcome (λ fault. IsBadLine fault → AskForHelpAlone words → ⊥)
  pub not_version : IfErr outcome (λ fault. IsBadLine fault → AskForVersionAlone words → ⊥)
  pub unknown : IfErr outcome (SaysUnknown (locale_named (command_of screens.colours words)))
  pub files : IfErr outcome (SaysOfNamed (command_of screens.colours words) before after)
  pub right : IfErr outcome (IsRight before.contents (command_of screens.colours words))
  pub unread : IfErr outcome (λ fault. IsBeforeInput fault → IsUntouched input)
  pub unwritten : IfErr outcome (λ fault. IsBeforeInput fault → IsUntouched output)
  -- what was written before another fault stays written
  pub memory_out : IsErrOf outcome Memory → AfterMemory before.contents (exchanged input output) (command_of screens.colours words)
  pub input_failed : IsErrOf outcome Input → AfterInput before.contents (exchanged input output) (HasFailed input.failures_before input.failures_after) (command_of screens.colours words)
  pub output_cut : IsErrOf outcome Output → AfterOutput before.contents (exchanged input output) (command_of screens.colours words)
  pub output_failed : IsErrOf outcome Output → HasFailed output.failures_before output.failures_after

-- so it is on a folder, a reader and two writers, by what is known of them
abbrev pub EndsOn : {F R W V : Type 0} → FolderGhosts F → F → F → SourceGhosts R → R → R → SinkGhosts W → W → W → SinkGhosts V → V → V → Terminals → List Text → ℕ → Type 0
EndsOn folders folder folder' source reader reader' sink writer writer' told faults faults' screens words status =
    Ends (state_of folders folder) (state_of folders folder') (seen source.remaining source.failures reader reader')
    (seen sink.contents sink.failures writer writer') (seen told.contents told.failures faults faults') screens words status

-- the device begins with these bytes, and no call has failed yet
abbrev pub Begins : Seen → Option Text → Type 0
Begins s bytes = (s.before ≡ bytes) × (s.failures_before ≡ 0)

-- nothing is known of files, and no call has failed yet
abbrev pub nothing_known : State
nothing_known = record { contents = λ _. None; sources = λ _. None; failures = 0 }

-- The same over files of which nothing is known, and devices that are passed with these bytes.
pub record EndsOver (left held reported : Option Text) (screens : Terminals) (words : List Text) (status : ℕ) : Type 0 where
  pub files : State
  pub input : Seen
  pub output : Seen
  pub faults : Seen
  pub input_new : Begins input left
  pub output_new : Begins output held
  pub faults_new : Begins faults reported
  pub ends : Ends nothing_known files input output faults screens words status

-- the line of a fault is reported on a device that is passed with these bytes
pub record ReportsOver (reported : Option Text) (fault : Fault) : Type 0 where
  pub faults : Seen
  pub faults_new : Begins faults reported
  pub reports : WritesOrFails faults (fault_line fault)
