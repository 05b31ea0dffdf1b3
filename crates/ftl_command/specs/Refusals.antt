-- What is so of the fault that a command ends with.
use Rattle.std.specs.Prelude.{◌≡◌, ◌≢◌, ◌⊎◌, Bool, Option, None, Some, Result, IfErr, IsTrue, List, OnOk}
use Rattle.std.specs.List.{list_any}
use Rattle.serde_json.specs.Read.{read as read_text}
use Rattle.fluent_serve.specs.Text.{Text}
use Rattle.fluent_serve.specs.Devices.{HasFailed}
use Rattle.fluent_serve.specs.Exchange.{GivesUp}
use Rattle.fluent_serve.specs.declared.stream.Sink.{Ghosts as SinkGhosts}
use Rattle.fluent_serve.specs.declared.stream.Source.{Ghosts as SourceGhosts}
use Rattle.fluent_tidy_laws.specs.Normal.{HasNoNormalText}
use Rattle.fluent_json.specs.Json.{HasNoTree}
use Rattle.fluent_tidy.specs.Sources.{holds_return}
use Rattle.fluent_tidy.specs.Trees.{IsNotImported}
use Rattle.ftl_arguments.specs.Meaning.{AskForHelpAlone, AskForText, AskForVersionAlone, Asked, Format, Tidy, command_of, run, format, check, lint, lint_input, lint_project, status, tidy_files, tidy_input, tidy, clean, normalize, join, export, import}
use Rattle.ftl_command.specs.Files.{OnFile, OnTexts}
use Rattle.ftl_command.specs.Faults.{IsBadLine, IsBeforeInput, IsOfLocale, NamesNoFile, SaysOfFiles, SaysUnknown}
use Rattle.ftl_command.specs.Program.{ByListing, OnFound, OnValue, ShowsVersionOn, UnlessListed, files_named, locale_named}
use Rattle.ftl_command.specs.declared.ended.Ended.{Ended}
use Rattle.ftl_files.specs.Files.{State}
use Rattle.ftl_files.specs.States.{state_of}
use Rattle.ftl_files.specs.declared.folder.Folder.{Ghosts as FolderGhosts}
use Rattle.ftl_command.specs.declared.fault.Fault.{Fault}
use Rattle.ftl_command.specs.declared.fault.Fault.TheVariants.{CarriageReturn, NotNormal, NotTree, NotJson, NoMessage, CommandLine, Project, UnknownLocale, FileUnreadable, FileNotUtf8, Input, Output, Memory}

-- A source to be tidied holds a carriage return. A file with a JSON tree is no source.
abbrev pub HoldReturn : (Text → Option Text) → Tidy → Type 0
HoldReturn contents (clean file) = OnFile contents file (λ source. IsTrue (holds_return source))
HoldReturn contents (normalize file) = OnFile contents file (λ source. IsTrue (holds_return source))
HoldReturn contents (join files) = OnTexts contents files (λ sources. IsTrue (list_any holds_return sources))
HoldReturn contents (export file) = OnFile contents file (λ source. IsTrue (holds_return source))
HoldReturn contents (import file) = ⊥

-- The source has no normal text, or the tree has none. Other commands ask for none.
abbrev pub HaveNoNormalText : (Text → Option Text) → Tidy → Type 0
HaveNoNormalText contents (clean file) = ⊥
HaveNoNormalText contents (normalize file) = OnFile contents file HasNoNormalText
HaveNoNormalText contents (join files) = ⊥
HaveNoNormalText contents (export file) = ⊥
HaveNoNormalText contents (import file) = OnFile contents file (λ source. OnValue source IsNotImported)

-- the JSON value in the file to be imported is that of no tree
abbrev pub HoldNoTree : (Text → Option Text) → Tidy → Type 0
HoldNoTree contents (clean file) = ⊥
HoldNoTree contents (normalize file) = ⊥
HoldNoTree contents (join files) = ⊥
HoldNoTree contents (export file) = ⊥
HoldNoTree contents (import file) = OnFile contents file (λ source. OnValue source HasNoTree)

-- the text of the file to be imported is that of no JSON value
abbrev pub HoldNoJson : (Text → Option Text) → Tidy → Type 0
HoldNoJson contents (clean file) = ⊥
HoldNoJson contents (normalize file) = ⊥
HoldNoJson contents (join files) = ⊥
HoldNoJson contents (export file) = ⊥
HoldNoJson contents (import file) = OnFile contents file (λ source. read_text source ≡ None)

-- What the fault says of the files to be tidied is so. Other faults say nothing of what they hold.
abbrev pub IsRightOf : (Text → Option Text) → Tidy → Fault → Type 0
IsRightOf contents t (CarriageReturn place) = HoldReturn contents t
IsRightOf contents t (NotNormal report) = HaveNoNormalText contents t
IsRightOf contents t NotTree = HoldNoTree contents t
IsRightOf contents t NotJson = HoldNoJson contents t
IsRightOf contents t (NoMessage meant) = ⊥
IsRightOf contents t (CommandLine advice) = Unit {0}
IsRightOf contents t (Project text) = ⊥
IsRightOf contents t (UnknownLocale tag) = Unit {0}
IsRightOf contents t (FileUnreadable file why meant) = Unit {0}
IsRightOf contents t (FileNotUtf8 file row) = Unit {0}
IsRightOf contents t Input = Unit {0}
IsRightOf contents t Output = Unit {0}
IsRightOf contents t Memory = Unit {0}

-- the fault is no refusal to tidy
abbrev pub RefusesNothing : Fault → Type 0
RefusesNothing (CarriageReturn place) = ⊥
RefusesNothing (NotNormal report) = ⊥
RefusesNothing NotTree = ⊥
RefusesNothing NotJson = ⊥
RefusesNothing (NoMessage meant) = ⊥
RefusesNothing (CommandLine advice) = Unit {0}
RefusesNothing (Project text) = ⊥
RefusesNothing (UnknownLocale tag) = Unit {0}
RefusesNothing (FileUnreadable file why meant) = Unit {0}
RefusesNothing (FileNotUtf8 file row) = Unit {0}
RefusesNothing Input = Unit {0}
RefusesNothing Output = Unit {0}
RefusesNothing Memory = Unit {0}

-- A fault refuses no message and no source, but maybe a project.
abbrev pub RefusesProject : Fault → Type 0
RefusesProject (CarriageReturn place) = ⊥
RefusesProject (NotNormal report) = ⊥
RefusesProject NotTree = ⊥
RefusesProject NotJson = ⊥
RefusesProject (NoMessage meant) = ⊥
RefusesProject (CommandLine advice) = Unit {0}
RefusesProject (Project text) = Unit {0}
RefusesProject (UnknownLocale tag) = Unit {0}
RefusesProject (FileUnreadable file why meant) = Unit {0}
RefusesProject (FileNotUtf8 file row) = Unit {0}
RefusesProject Input = Unit {0}
RefusesProject Output = Unit {0}
RefusesProject Memory = Unit {0}

-- if the fault says that there is no such message, the files' texts have none
abbrev pub SaysNoMessage : (Text → Option Text) → Format → Fault → Type 0
SaysNoMessage contents f (CarriageReturn place) = ⊥
SaysNoMessage contents f (NotNormal report) = ⊥
SaysNoMessage contents f NotTree = ⊥
SaysNoMessage contents f NotJson = ⊥
SaysNoMessage contents f (NoMessage meant) = OnFound contents f (λ found. found ≡ None)
SaysNoMessage contents f (CommandLine advice) = Unit {0}
SaysNoMessage contents f (Project text) = ⊥
SaysNoMessage contents f (UnknownLocale tag) = Unit {0}
SaysNoMessage contents f (FileUnreadable file why meant) = Unit {0}
SaysNoMessage contents f (FileNotUtf8 file row) = Unit {0}
SaysNoMessage contents f Input = Unit {0}
SaysNoMessage contents f Output = Unit {0}
SaysNoMessage contents f Memory = Unit {0}

-- The same for whatever the words ask for: only what is to be tidied and a project can be refused, and only a message can be missing.
abbrev pub IsRight : (Text → Option Text) → Option Asked → Fault → Type 0
IsRight contents None fault = RefusesNothing fault
IsRight contents (Some (run r)) fault = RefusesNothing fault
IsRight contents (Some (format f)) fault = SaysNoMessage contents f fault
IsRight contents (Some (check files)) fault = RefusesNothing fault
IsRight contents (Some (lint l)) fault = RefusesNothing fault
IsRight contents (Some (lint_input l)) fault = RefusesNothing fault
IsRight contents (Some (lint_project l)) fault = RefusesProject fault
IsRight contents (Some (status s)) fault = RefusesProject fault
IsRight contents (Some (tidy_files t)) fault = RefusesNothing fault
IsRight contents (Some (tidy_input checked)) fault = RefusesNothing fault
IsRight contents (Some (tidy t)) fault = IsRightOf contents t fault

-- What a fault says of the files that the words name is so. That of a command which lists folders names none: what can't be read is
-- reported at its end.
abbrev pub SaysOfNamed : Option Asked → State → State → Fault → Type 0
SaysOfNamed asked before after fault = ByListing asked (SaysOfFiles before after (files_named asked) fault) (NamesNoFile fault)

-- ---- a fault, by what the words ask for, and by what is known of the devices before and after

-- what it says of the words and of the files is so
pub record IsFaultOf {F : Type 0} (folders : FolderGhosts F) (before after : F) (asked : Option Asked) (fault : Fault) : Type 0 where
  pub refused : IsBadLine fault → asked ≡ None
  pub unknown : SaysUnknown (locale_named asked) fault
  -- before the locale is found no file is read
  pub unopened : IsOfLocale fault → after ≡ before
  pub files : SaysOfNamed asked (state_of folders before) (state_of folders after) fault
  pub right : IsRight (folders.contents before) asked fault

-- so it is of a fault that came before anything but files was read, and before anything was written
pub record IsEarlyFault {F : Type 0} (folders : FolderGhosts F) (before after : F) (asked : Asked) (fault : Fault) : Type 0 where
  pub says : IsFaultOf folders before after (Some asked) fault
  pub not_input : fault ≢ Input
  pub not_output : fault ≢ Output

-- the fault of a command that reads files alone, and then writes a text
pub record IsTextFault {W : Type 0} (sink : SinkGhosts W) (writer writer' : W) (fault : Fault) : Type 0 where
  pub not_input : fault ≢ Input
  pub unwritten : fault ≢ Output → writer' ≡ writer
  pub failed : fault ≡ Output → HasFailed (sink.failures writer) (sink.failures writer')

-- the fault of reading files and then the input, before anything is written
pub record IsReadFault {R : Type 0} (source : SourceGhosts R) (reader reader' : R) (fault : Fault) : Type 0 where
  pub unread : IsBeforeInput fault → reader' ≡ reader
  pub not_output : fault ≢ Output
  pub given_up : fault ≡ Input → GivesUp source reader reader' 4294967296

-- the fault of any command
pub record IsDeviceFault {R W : Type 0} (source : SourceGhosts R) (reader reader' : R) (sink : SinkGhosts W) (writer writer' : W) (fault : Fault) : Type 0 where
  -- before the words and all files are read nothing else is read, and nothing is written
  pub unread : IsBeforeInput fault → reader' ≡ reader
  pub unwritten : IsBeforeInput fault → writer' ≡ writer
  -- the device that is at fault failed, or the input came to no end
  pub given_up : fault ≡ Input → GivesUp source reader reader' 4294967296
  pub failed : fault ≡ Output → HasFailed (sink.failures writer) (sink.failures writer')

-- a project is wrong, memory ran out, or the output failed
abbrev pub IsOfProject : Fault → Type 0
IsOfProject (Project text) = Unit {0}
IsOfProject Output = Unit {0}
IsOfProject Memory = Unit {0}
IsOfProject fault = ⊥

-- memory ran out, or the input or the output failed
abbrev pub IsOfStreams : Fault → Type 0
IsOfStreams fault = (fault ≡ Memory) ⊎ ((fault ≡ Input) ⊎ (fault ≡ Output))

-- without a fault no call of a folder or a writer failed
pub record TextWorks {F W : Type 0} (folders : FolderGhosts F) (before after : F) (sink : SinkGhosts W) (writer writer' : W) : Type 0 where
  pub opens : folders.failures after ≡ folders.failures before
  pub writes : sink.failures writer' ≡ sink.failures writer

-- What became of the devices of any command: without a fault no call of them failed, and what a fault says of them is so.
pub record DevicesEnd {F R W : Type 0} (folders : FolderGhosts F) (before after : F) (source : SourceGhosts R) (reader reader' : R) (sink : SinkGhosts W) (writer writer' : W)
    (asked : Option Asked) (result : Result Ended Fault) : Type 0 where
  pub opens : OnOk result (UnlessListed asked (folders.failures after ≡ folders.failures before))
  pub reads : OnOk result (source.failures reader' ≡ source.failures reader)
  pub writes : OnOk result (sink.failures writer' ≡ sink.failures writer)
  pub fault : IfErr result (IsFaultOf folders before after asked)
  pub stops : IfErr result (IsDeviceFault source reader reader' sink writer writer')

-- What becomes of words that ask for a text, and for nothing else.
pub record AnswersHelp {W : Type 0} (sink : SinkGhosts W) (writer writer' : W) (colours : Bool) (words : List Text) (result : Result Ended Fault) : Type 0 where
  -- words that are no command ask for one of the texts, if nothing is at fault
  pub text : OnOk result (command_of colours words ≡ None → AskForText words)
  pub version : AskForVersionAlone words → ShowsVersionOn sink writer writer' result
  -- they are no bad command line
  pub not_help : IfErr result (λ fault. IsBadLine fault → ¬ AskForHelpAlone words)
  pub not_version : IfErr result (λ fault. IsBadLine fault → ¬ AskForVersionAlone words)
