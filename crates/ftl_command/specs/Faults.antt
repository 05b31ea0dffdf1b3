-- The program's faults, and the status that it ends with.
use Rattle.std.specs.Prelude.{◌≡◌, ◌⊎◌, ℕ, Bool, if◌then◌else◌, List, [], ◌++◌, Option, Some, None, IfSome, IsUtf8, Result, Ok, Err, String, codes, decimal, string_bytes}
use Rattle.std.specs.Global.{Global}
use Rattle.std.specs.Option.{option_map_or}
use denote.Ref.{Bor}
use Rattle.fluent_serve.specs.Text.{Text}
use Rattle.fluent_serve.specs.Frames.{ended}
use Rattle.fluent_serve.specs.Devices.{HasFailed}
use Rattle.fluent_plurals.specs.Plurals.{plurals_for}
use Rattle.ftl_command.specs.Files.{Reaches}
use Rattle.ftl_files.specs.Files.{State}
use Rattle.ftl_files.specs.Rows.{bad_row}
use Rattle.ftl_files.specs.States.{state_of}
use Rattle.ftl_files.specs.declared.folder.Folder.{Ghosts as FolderGhosts}
use Rattle.ftl_command.specs.declared.fault.Fault.{Fault}
use Rattle.ftl_command.specs.declared.fault.FilePlace.{FilePlace}
use Rattle.ftl_command.specs.declared.fault.Meant.{Meant}
use Rattle.ftl_command.specs.declared.fault.Meant.TheVariants as may_be
use Rattle.ftl_command.specs.declared.fault.Fault.TheVariants.{CarriageReturn, NotNormal, NotTree, NotJson, NoMessage, CommandLine, Project, UnknownLocale, FileUnreadable, FileNotUtf8, Input, Output, Memory}
use Rattle.fluent_tidy.specs.declared.error.CleanError.{CleanError}
use Rattle.fluent_tidy.specs.declared.error.CleanError.TheVariants as clean
use Rattle.fluent_tidy.specs.declared.error.NormalizeError.{NormalizeError}
use Rattle.fluent_tidy.specs.declared.error.NormalizeError.TheVariants as normalize
use Rattle.fluent_tidy.specs.declared.error.ImportError.{ImportError}
use Rattle.fluent_tidy.specs.declared.error.ImportError.TheVariants as import
use Rattle.ftl_project.specs.declared.wrong.ProjectError.{ProjectError}
use Rattle.ftl_project.specs.declared.wrong.ProjectError.TheVariants as of_project
use Rattle.fluent_serve.specs.declared.serve.RunError.{RunError}
use Rattle.fluent_serve.specs.declared.serve.RunError.TheVariants.{Memory as RunMemory, Read as RunRead, Write as RunWrite}
use Rattle.ftl_command.specs.declared.ended.Ended.{Ended}
use Rattle.ftl_command.specs.declared.ended.Ended.TheVariants.{Done, Found, Incomplete, NoFile, Partial, OutOfMemory}

-- Without a fault the status is 0, or 1 if something was found in the sources or went wrong in a text. Of files that are linted or tidied it
-- is 2 if a path stands for no file, 3 if one could not be read or written, and 4 if memory ran out for one, or it nests too deep.
abbrev pub end_status : Ended → ℕ
end_status Done = 0
end_status Found = 1
end_status (Incomplete errors) = 1
end_status (NoFile errors) = 2
end_status (Partial errors) = 3
end_status (OutOfMemory errors) = 4

-- what can't be tidied is 1, bad words and an unknown locale are 2, what cannot be read or written is 3, and where memory runs out it is 4
abbrev pub status_of : Fault → ℕ
status_of (CarriageReturn place) = 1
status_of (NotNormal report) = 1
status_of NotTree = 1
status_of NotJson = 1
status_of (NoMessage meant) = 1
status_of (CommandLine advice) = 2
status_of (Project text) = 2
status_of (UnknownLocale tag) = 2
status_of (FileUnreadable file why meant) = 3
status_of (FileNotUtf8 file row) = 3
status_of Input = 3
status_of Output = 3
status_of Memory = 4

-- the status of what a command results in
abbrev pub outcome_status : Result Ended Fault → ℕ
outcome_status (Ok end) = end_status end
outcome_status (Err fault) = status_of fault

-- what is reported of a fault
abbrev pub fault_text : Fault → Text
fault_text (CarriageReturn place) = codes "carriage return"
fault_text (NotNormal report) = codes "not normal"
fault_text NotTree = codes "not a tree"
fault_text NotJson = codes "not JSON"
fault_text (NoMessage meant) = codes "no such message"
fault_text (CommandLine advice) = codes "bad command line"
fault_text (Project text) = string_bytes text
fault_text (UnknownLocale tag) = tag.now ++ codes ": unknown locale"
fault_text (FileUnreadable file why meant) = file.now ++ codes ": cannot read"
fault_text (FileNotUtf8 file row) = file.now ++ codes ": not UTF-8"
fault_text Input = codes "standard input: cannot read"
fault_text Output = codes "standard output: cannot write"
fault_text Memory = codes "out of memory"

-- the line of it
abbrev pub fault_line : Fault → Text
fault_line fault = ended (codes "ftl: " ++ fault_text fault)

-- if the failure says that a file isn't UTF-8, what the file holds is none from that line on, if it is known
abbrev pub SaysNoUtf8 : (Text → Option Text) → Fault → Type 0
SaysNoUtf8 contents (CarriageReturn place) = Unit {0}
SaysNoUtf8 contents (NotNormal report) = Unit {0}
SaysNoUtf8 contents NotTree = Unit {0}
SaysNoUtf8 contents NotJson = Unit {0}
SaysNoUtf8 contents (NoMessage meant) = Unit {0}
SaysNoUtf8 contents (CommandLine advice) = Unit {0}
SaysNoUtf8 contents (Project text) = Unit {0}
SaysNoUtf8 contents (UnknownLocale tag) = Unit {0}
SaysNoUtf8 contents (FileUnreadable file why meant) = Unit {0}
SaysNoUtf8 contents (FileNotUtf8 file row) = IfSome (contents file.now) (λ held. (IsUtf8 held → ⊥) × (row ≡ bad_row held))
SaysNoUtf8 contents Input = Unit {0}
SaysNoUtf8 contents Output = Unit {0}
SaysNoUtf8 contents Memory = Unit {0}

-- if the fault calls a locale unknown, it is this one, which has no plural rules
abbrev pub SaysUnknown : Option Text → Fault → Type 0
SaysUnknown locale (CarriageReturn place) = Unit {0}
SaysUnknown locale (NotNormal report) = Unit {0}
SaysUnknown locale NotTree = Unit {0}
SaysUnknown locale NotJson = Unit {0}
SaysUnknown locale (NoMessage meant) = Unit {0}
SaysUnknown locale (CommandLine advice) = Unit {0}
SaysUnknown locale (Project text) = Unit {0}
SaysUnknown locale (UnknownLocale tag) = (locale ≡ Some tag.now) × (plurals_for tag.now ≡ None)
SaysUnknown locale (FileUnreadable file why meant) = Unit {0}
SaysUnknown locale (FileNotUtf8 file row) = Unit {0}
SaysUnknown locale Input = Unit {0}
SaysUnknown locale Output = Unit {0}
SaysUnknown locale Memory = Unit {0}

-- a fault that comes while the locale is looked up
abbrev pub IsOfLocale : Fault → Type 0
IsOfLocale (CarriageReturn place) = ⊥
IsOfLocale (NotNormal report) = ⊥
IsOfLocale NotTree = ⊥
IsOfLocale NotJson = ⊥
IsOfLocale (NoMessage meant) = ⊥
IsOfLocale (CommandLine advice) = ⊥
IsOfLocale (Project text) = ⊥
IsOfLocale (UnknownLocale tag) = Unit {0}
IsOfLocale (FileUnreadable file why meant) = ⊥
IsOfLocale (FileNotUtf8 file row) = ⊥
IsOfLocale Input = ⊥
IsOfLocale Output = ⊥
IsOfLocale Memory = ⊥

-- the files in front of the one that the fault names are held, as texts
abbrev pub ReachesFile : (Text → Option Text) → List Text → Fault → Type 0
ReachesFile contents files (CarriageReturn place) = Unit {0}
ReachesFile contents files (NotNormal report) = Unit {0}
ReachesFile contents files NotTree = Unit {0}
ReachesFile contents files NotJson = Unit {0}
ReachesFile contents files (NoMessage meant) = Unit {0}
ReachesFile contents files (CommandLine advice) = Unit {0}
ReachesFile contents files (Project text) = Unit {0}
ReachesFile contents files (UnknownLocale tag) = Unit {0}
ReachesFile contents files (FileUnreadable file why meant) = Reaches contents files file.now
ReachesFile contents files (FileNotUtf8 file row) = Reaches contents files file.now
ReachesFile contents files Input = Unit {0}
ReachesFile contents files Output = Unit {0}
ReachesFile contents files Memory = Unit {0}

-- the fault names no file
abbrev pub NamesNoFile : Fault → Type 0
NamesNoFile (CarriageReturn place) = Unit {0}
NamesNoFile (NotNormal report) = Unit {0}
NamesNoFile NotTree = Unit {0}
NamesNoFile NotJson = Unit {0}
NamesNoFile (NoMessage meant) = Unit {0}
NamesNoFile (CommandLine advice) = Unit {0}
NamesNoFile (Project text) = Unit {0}
NamesNoFile (UnknownLocale tag) = Unit {0}
NamesNoFile (FileUnreadable file why meant) = ⊥
NamesNoFile (FileNotUtf8 file row) = ⊥
NamesNoFile Input = Unit {0}
NamesNoFile Output = Unit {0}
NamesNoFile Memory = Unit {0}

-- the folder's counts of failures before and after: a read has failed exactly if the fault says so
abbrev pub FailsAsTold : ℕ → ℕ → Fault → Type 0
FailsAsTold before after (CarriageReturn place) = after ≡ before
FailsAsTold before after (NotNormal report) = after ≡ before
FailsAsTold before after NotTree = after ≡ before
FailsAsTold before after NotJson = after ≡ before
FailsAsTold before after (NoMessage meant) = after ≡ before
FailsAsTold before after (CommandLine advice) = after ≡ before
FailsAsTold before after (Project text) = Unit {0}
FailsAsTold before after (UnknownLocale tag) = after ≡ before
FailsAsTold before after (FileUnreadable file why meant) = HasFailed before after
FailsAsTold before after (FileNotUtf8 file row) = after ≡ before
FailsAsTold before after Input = after ≡ before
FailsAsTold before after Output = after ≡ before
FailsAsTold before after Memory = after ≡ before

-- a fault that comes while files are read
abbrev pub IsOfFiles : Fault → Type 0
IsOfFiles (CarriageReturn place) = ⊥
IsOfFiles (NotNormal report) = ⊥
IsOfFiles NotTree = ⊥
IsOfFiles NotJson = ⊥
IsOfFiles (NoMessage meant) = ⊥
IsOfFiles (CommandLine advice) = ⊥
IsOfFiles (Project text) = ⊥
IsOfFiles (UnknownLocale tag) = ⊥
IsOfFiles (FileUnreadable file why meant) = Unit {0}
IsOfFiles (FileNotUtf8 file row) = Unit {0}
IsOfFiles Input = ⊥
IsOfFiles Output = ⊥
IsOfFiles Memory = Unit {0}

-- the words or the sources are at fault
abbrev pub IsBeforeInput : Fault → Type 0
IsBeforeInput (CarriageReturn place) = Unit {0}
IsBeforeInput (NotNormal report) = Unit {0}
IsBeforeInput NotTree = Unit {0}
IsBeforeInput NotJson = Unit {0}
IsBeforeInput (NoMessage meant) = Unit {0}
IsBeforeInput (CommandLine advice) = Unit {0}
IsBeforeInput (Project text) = Unit {0}
IsBeforeInput (UnknownLocale tag) = Unit {0}
IsBeforeInput (FileUnreadable file why meant) = Unit {0}
IsBeforeInput (FileNotUtf8 file row) = Unit {0}
IsBeforeInput Input = ⊥
IsBeforeInput Output = ⊥
IsBeforeInput Memory = ⊥

-- What a fault says of the files that were to be read is so, by what is known of their folder before and after.
pub record SaysOfFiles (before after : State) (files : List Text) (fault : Fault) : Type 0 where
  -- the file that it names is one of these, and those before it are held, as texts
  pub reached : ReachesFile before.contents files fault
  pub not_utf8 : SaysNoUtf8 before.contents fault
  -- a read has failed exactly if it says so
  pub unreadable : FailsAsTold before.failures after.failures fault

-- a fault that came while these files were read
pub record IsFaultOfFiles {F : Type 0} (folders : FolderGhosts F) (before after : F) (files : List Text) (fault : Fault) : Type 0 where
  pub of_files : IsOfFiles fault
  pub says : SaysOfFiles (state_of folders before) (state_of folders after) files fault

-- what a run's end is reported as: its reader is standard input, and its writer standard output
abbrev pub run_fault : RunError → Fault
run_fault RunMemory = Memory
run_fault RunRead = Input
run_fault RunWrite = Output

-- ---- what the engine's refusals are reported as

-- a source holds a carriage return, wherever that is
pub record SaysReturn (fault : Fault) : Type 0 where
  pub place : Option FilePlace
  pub is : fault ≡ CarriageReturn place

-- a source has no normal text, whatever is said of it
pub record SaysNotNormal (fault : Fault) : Type 0 where
  pub report : Option (String Global)
  pub is : fault ≡ NotNormal report

abbrev pub IsCleanFault : CleanError → Fault → Type 0
IsCleanFault clean.Memory fault = fault ≡ Memory
IsCleanFault clean.CarriageReturn fault = SaysReturn fault

abbrev pub IsNormalizeFault : NormalizeError → Fault → Type 0
IsNormalizeFault normalize.Memory fault = fault ≡ Memory
IsNormalizeFault normalize.CarriageReturn fault = SaysReturn fault
IsNormalizeFault normalize.NotNormal fault = SaysNotNormal fault

abbrev pub project_fault : ProjectError → Fault
project_fault of_project.Memory = Memory
project_fault (of_project.Wrong text) = Project text

abbrev pub import_fault : ImportError → Fault
import_fault import.Memory = Memory
import_fault import.NotNormal = NotNormal None
import_fault import.Shape = NotTree

-- ---- why it came

-- the words are no command, whatever is said of them
abbrev pub IsBadLine : Fault → Type 0
IsBadLine (CarriageReturn place) = ⊥
IsBadLine (NotNormal report) = ⊥
IsBadLine NotTree = ⊥
IsBadLine NotJson = ⊥
IsBadLine (NoMessage meant) = ⊥
IsBadLine (CommandLine advice) = Unit {0}
IsBadLine (Project text) = ⊥
IsBadLine (UnknownLocale tag) = ⊥
IsBadLine (FileUnreadable file why meant) = ⊥
IsBadLine (FileNotUtf8 file row) = ⊥
IsBadLine Input = ⊥
IsBadLine Output = ⊥
IsBadLine Memory = ⊥

-- the file can't be read, whatever may be meant by its name
pub record SaysUnreadable (file : Bor Text) (why : Option (Bor Text)) (fault : Fault) : Type 0 where
  pub meant : Meant
  pub is : fault ≡ FileUnreadable file why meant

-- the fault is this one, but for what may be meant by the name of a file that is missing
abbrev pub IsWithMeant : Fault → Fault → Type 0
IsWithMeant (CarriageReturn place) fault = fault ≡ CarriageReturn place
IsWithMeant (NotNormal report) fault = fault ≡ NotNormal report
IsWithMeant NotTree fault = fault ≡ NotTree
IsWithMeant NotJson fault = fault ≡ NotJson
IsWithMeant (NoMessage meant) fault = fault ≡ NoMessage meant
IsWithMeant (CommandLine advice) fault = fault ≡ CommandLine advice
IsWithMeant (Project text) fault = fault ≡ Project text
IsWithMeant (UnknownLocale tag) fault = fault ≡ UnknownLocale tag
IsWithMeant (FileUnreadable file why meant) fault = SaysUnreadable file why fault
IsWithMeant (FileNotUtf8 file row) fault = fault ≡ FileNotUtf8 file row
IsWithMeant Input fault = fault ≡ Input
IsWithMeant Output fault = fault ≡ Output
IsWithMeant Memory fault = fault ≡ Memory

-- what is said of a line of a file
abbrev pub said_at : Bor Text → ℕ → Text → Text
said_at file row said = codes "ftl: " ++ (file.now ++ (codes ":" ++ (decimal row ++ said)))

abbrev pub return_reason : Option FilePlace → Text
return_reason None = []
return_reason (Some p) = said_at p.file p.row (codes ": a carriage return; `ftl tidy` makes line feeds of Windows line ends\n")

-- what may be meant by the name of a file that is missing
abbrev pub meant_line : Bor Text → Meant → Text
meant_line file may_be.Nothing = []
meant_line file may_be.Argument = codes "ftl: did you mean --argument " ++ (file.now ++ codes "?\n")
meant_line file may_be.Order = codes "ftl: the message comes first, and then the files: ftl format ID FILE..\n"

abbrev pub unreadable_reason : Bor Text → Option (Bor Text) → Meant → Text
unreadable_reason file None meant = []
unreadable_reason file (Some why) meant = (codes "ftl: " ++ (file.now ++ (codes ": " ++ (why.now ++ codes "\n")))) ++ meant_line file meant

-- The lines that say why it came, if that is known: by the kind of the fault, and by what it carries.
abbrev pub reason_of : Fault → Text
reason_of (CarriageReturn place) = return_reason place
reason_of (NotNormal report) = option_map_or string_bytes report []
reason_of NotTree = []
reason_of NotJson = []
reason_of (NoMessage meant) = option_map_or string_bytes meant []
reason_of (CommandLine advice) = option_map_or string_bytes advice []
reason_of (Project text) = []
reason_of (UnknownLocale tag) = []
reason_of (FileUnreadable file why meant) = unreadable_reason file why meant
reason_of (FileNotUtf8 file row) = said_at file row (codes ": a byte that isn't UTF-8\n")
reason_of Input = []
reason_of Output = []
reason_of Memory = []

-- the line of a fault, and a reason
abbrev pub said : Fault → Text → Text
said fault reason = fault_line fault ++ reason

-- What is shown of the reason: all of it or, if memory runs out for it or it isn't to be shown, nothing.
abbrev pub IsShownReason : Bool → Fault → Text → Type 0
IsShownReason shown fault text = (text ≡ (if shown then reason_of fault else [])) ⊎ (text ≡ [])
