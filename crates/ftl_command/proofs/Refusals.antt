-- What is so of a fault, by how it came.
use Rattle.std.proofs.Common.{◌≡◌, ◌≢◌, ◌⊎◌, Bool, List, [], ◌∷◌, ◌++◌, Option, None, Some, Result, Ok, Err, IfErr, OnErr, OnOk, inl, inr, refl}
use Rattle.std.specs.Global.{Global}
use Rattle.std.specs.Prelude.{String}
use Rattle.std.proofs.lemmas.Result.{IfErr-weaker, on_ok_weaker}
use Rattle.fluent_serve.proofs.Outcomes.{on_ok_always}
use Rattle.fluent_serve.specs.Text.{Text}
use Rattle.fluent_serve.specs.Devices.{HasFailed}
use Rattle.fluent_serve.specs.declared.stream.Sink.{Ghosts as SinkGhosts}
use Rattle.fluent_serve.specs.declared.stream.Source.{Ghosts as SourceGhosts}
use Rattle.ftl_arguments.specs.Meaning.{Asked, Format, Tidy, run, format, check, lint, lint_input, lint_project, status, tidy_files, tidy_input, tidy}
use Rattle.ftl_arguments.specs.Linting.{Lint}
use Rattle.ftl_arguments.specs.Projects.{ProjectLint, Status}
use Rattle.ftl_arguments.specs.TidyFiles.{TidyFiles}
use Rattle.ftl_project.specs.declared.wrong.ProjectError.{ProjectError}
use Rattle.ftl_project.specs.declared.wrong.ProjectError.TheVariants as error
use Rattle.fluent_serve.specs.Exchange.{GivesUp}
use Rattle.fluent_serve.specs.declared.serve.RunError.{RunError}
use Rattle.fluent_serve.specs.declared.serve.RunError.TheVariants.{Memory as RunMemory, Read as RunRead, Write as RunWrite}
use Rattle.fluent_tidy.specs.declared.error.CleanError.{CleanError}
use Rattle.fluent_tidy.specs.declared.error.CleanError.TheVariants as clean
use Rattle.fluent_tidy.specs.declared.error.NormalizeError.{NormalizeError}
use Rattle.fluent_tidy.specs.declared.error.NormalizeError.TheVariants as normalize
use Rattle.fluent_tidy.specs.declared.error.ImportError.{ImportError}
use Rattle.fluent_tidy.specs.declared.error.ImportError.TheVariants as import
use Rattle.ftl_command.specs.Faults.{IsBadLine, IsBeforeInput, IsCleanFault, IsFaultOfFiles, IsNormalizeFault, IsOfLocale, NamesNoFile, ReachesFile, SaysOfFiles, SaysReturn, SaysUnknown, import_fault, project_fault, run_fault}
use Rattle.ftl_command.specs.Program.{UnlessListed, files_named, locale_named}
use Rattle.ftl_command.specs.Refusals.{DevicesEnd, HaveNoNormalText, HoldNoTree, HoldReturn, IsDeviceFault, IsEarlyFault, IsFaultOf, IsOfProject, IsOfStreams, IsReadFault, IsRight, IsRightOf, IsTextFault, RefusesNothing, RefusesProject, SaysNoMessage, SaysOfNamed, TextWorks}
use Rattle.ftl_command.specs.declared.fault.Fault.{Fault}
use Rattle.ftl_command.specs.declared.fault.Fault.TheVariants.{CarriageReturn, NotNormal, NotTree, NotJson, NoMessage, CommandLine, Project, UnknownLocale, FileUnreadable, FileNotUtf8, Input, Output, Memory}
use Rattle.ftl_command.specs.declared.ended.Ended.{Ended}
use Rattle.ftl_files.specs.Files.{State}
use Rattle.ftl_files.specs.States.{state_of}
use Rattle.ftl_files.specs.declared.folder.Folder.{Ghosts as FolderGhosts}

module _ (contents : Text → Option Text) where
  nothing_of_message : (f : Format) (fault : Fault) → RefusesNothing fault → SaysNoMessage contents f fault
  nothing_of_message f (NoMessage meant) nothing = absurd nothing
  nothing_of_message f (Project text) nothing = absurd nothing
  nothing_of_message f fault nothing = nothing

  nothing_of_project : (fault : Fault) → RefusesNothing fault → RefusesProject fault
  nothing_of_project (CarriageReturn place) nothing = absurd nothing
  nothing_of_project (NotNormal report) nothing = absurd nothing
  nothing_of_project NotTree nothing = absurd nothing
  nothing_of_project NotJson nothing = absurd nothing
  nothing_of_project (NoMessage meant) nothing = absurd nothing
  nothing_of_project (Project text) nothing = absurd nothing
  nothing_of_project fault nothing = nothing

  nothing_of_tidying : (t : Tidy) (fault : Fault) → RefusesNothing fault → IsRightOf contents t fault
  nothing_of_tidying t (CarriageReturn place) nothing = absurd nothing
  nothing_of_tidying t (NotNormal report) nothing = absurd nothing
  nothing_of_tidying t NotTree nothing = absurd nothing
  nothing_of_tidying t NotJson nothing = absurd nothing
  nothing_of_tidying t (Project text) nothing = absurd nothing
  nothing_of_tidying t fault nothing = nothing

  -- a fault that refuses nothing says nothing of what files hold, whatever the words ask for
  pub right_by : (asked : Option Asked) (fault : Fault) → RefusesNothing fault → IsRight contents asked fault
  right_by None fault nothing = nothing
  right_by (Some (run r)) fault nothing = nothing
  right_by (Some (format f)) fault nothing = nothing_of_message f fault nothing
  right_by (Some (check files)) fault nothing = nothing
  right_by (Some (lint l)) fault nothing = nothing
  right_by (Some (lint_input l)) fault nothing = nothing
  right_by (Some (lint_project l)) fault nothing = nothing_of_project fault nothing
  right_by (Some (status s)) fault nothing = nothing_of_project fault nothing
  right_by (Some (tidy_files t)) fault nothing = nothing
  right_by (Some (tidy_input checked)) fault nothing = nothing
  right_by (Some (tidy t)) fault nothing = nothing_of_tidying t fault nothing

-- what is so of any command is so of those that don't list folders
pub of_any : {P : Type 0} (asked : Option Asked) → P → UnlessListed asked P
of_any None p = p
of_any (Some (run r)) p = p
of_any (Some (format f)) p = p
of_any (Some (check files)) p = p
of_any (Some (lint l)) p = tt
of_any (Some (lint_input l)) p = tt
of_any (Some (lint_project l)) p = tt
of_any (Some (status s)) p = tt
of_any (Some (tidy_files t)) p = tt
of_any (Some (tidy_input checked)) p = p
of_any (Some (tidy t)) p = p

-- no list of no names has a name in it
none_split : (front behind : List Text) (name : Text) → [] ≡ front ++ name ∷ behind → ⊥
none_split [] behind name split = absurd cc
none_split (x ∷ rest) behind name split = absurd cc

-- if the words name no file, no fault of theirs does
none_named : (contents : Text → Option Text) (fault : Fault) → ReachesFile contents [] fault → NamesNoFile fault
none_named contents (FileUnreadable file why meant) reached = none_split reached.front reached.behind file.now reached.split
none_named contents (FileNotUtf8 file row) reached = none_split reached.front reached.behind file.now reached.split
none_named contents fault reached = tt

-- what a fault says of the files that a command names is so
says_of_named : (asked : Option Asked) (before after : State) (fault : Fault) → SaysOfFiles before after (files_named asked) fault → SaysOfNamed asked before after fault
says_of_named None before after fault says = says
says_of_named (Some (run r)) before after fault says = says
says_of_named (Some (format f)) before after fault says = says
says_of_named (Some (check files)) before after fault says = says
says_of_named (Some (lint l)) before after fault says = none_named before.contents fault says.reached
says_of_named (Some (lint_input l)) before after fault says = none_named before.contents fault says.reached
says_of_named (Some (lint_project l)) before after fault says = none_named before.contents fault says.reached
says_of_named (Some (status s)) before after fault says = none_named before.contents fault says.reached
says_of_named (Some (tidy_files t)) before after fault says = none_named before.contents fault says.reached
says_of_named (Some (tidy_input checked)) before after fault says = says
says_of_named (Some (tidy t)) before after fault says = says

-- by what is known of a folder
on_named : {F : Type 0} (folders : FolderGhosts F) (before after : F) (asked : Option Asked) (fault : Fault) →
    SaysOfFiles (state_of folders before) (state_of folders after) (files_named asked) fault → SaysOfNamed asked (state_of folders before) (state_of folders after) fault
on_named folders before after asked fault says = says_of_named asked (state_of folders before) (state_of folders after) fault says

-- a fault of memory or a device
abbrev IsOfDevice : Fault → Type 0
IsOfDevice Input = Unit {0}
IsOfDevice Output = Unit {0}
IsOfDevice Memory = Unit {0}
IsOfDevice fault = ⊥

of_device : {F : Type 0} (folders : FolderGhosts F) (before after : F) (asked : Option Asked) (fault : Fault) → IsOfDevice fault →
    folders.failures after ≡ folders.failures before → IsFaultOf folders before after asked fault
of_device folders before after asked Input of same =
    record { refused = λ is. absurd is; unknown = tt; unopened = λ of. absurd of; files = on_named folders before after asked Input (record { reached = tt; not_utf8 = tt; unreadable = same }); right = right_by (folders.contents before) asked Input tt }
of_device folders before after asked Output of same =
    record { refused = λ is. absurd is; unknown = tt; unopened = λ of. absurd of; files = on_named folders before after asked Output (record { reached = tt; not_utf8 = tt; unreadable = same }); right = right_by (folders.contents before) asked Output tt }
of_device folders before after asked Memory of same =
    record { refused = λ is. absurd is; unknown = tt; unopened = λ of. absurd of; files = on_named folders before after asked Memory (record { reached = tt; not_utf8 = tt; unreadable = same }); right = right_by (folders.contents before) asked Memory tt }
of_device folders before after asked fault of same = absurd of

module _ {F : Type 0} (folders : FolderGhosts F) (before after : F) (asked : Asked) where
  -- a fault that names neither a locale nor a file
  pub nameless : (fault : Fault) → (IsBadLine fault → ⊥) → fault ≢ Input → fault ≢ Output → SaysUnknown (locale_named (Some asked)) fault →
      (IsOfLocale fault → ⊥) → SaysOfFiles (state_of folders before) (state_of folders after) (files_named (Some asked)) fault → IsRight (folders.contents before) (Some asked) fault →
      IsEarlyFault folders before after asked fault
  nameless fault not_words not_input not_output unknown not_locale files right = record {
    says = record { refused = λ is. absurd (not_words is); unknown = unknown; unopened = λ of. absurd (not_locale of); files = on_named folders before after (Some asked) fault files; right = right };
    not_input = not_input;
    not_output = not_output;
  }

  pub of_files : (fault : Fault) → IsFaultOfFiles folders before after (files_named (Some asked)) fault → IsEarlyFault folders before after asked fault
  of_files (FileUnreadable file why meant) f =
      nameless (FileUnreadable file why meant) (λ is. is) (λ is. absurd cc) (λ is. absurd cc) tt (λ of. of) f.says (right_by (folders.contents before) (Some asked) (FileUnreadable file why meant) tt)
  of_files (FileNotUtf8 file row) f =
      nameless (FileNotUtf8 file row) (λ is. is) (λ is. absurd cc) (λ is. absurd cc) tt (λ of. of) f.says (right_by (folders.contents before) (Some asked) (FileNotUtf8 file row) tt)
  of_files Memory f =
      nameless Memory (λ is. is) (λ is. absurd cc) (λ is. absurd cc) tt (λ of. of) f.says (right_by (folders.contents before) (Some asked) Memory tt)
  of_files fault f = absurd f.of_files

  pub of_memory : folders.failures after ≡ folders.failures before → IsEarlyFault folders before after asked Memory
  of_memory same = of_files Memory (record { of_files = tt; says = record { reached = tt; not_utf8 = tt; unreadable = same } })

-- the locale is unknown: no file was read
pub of_locale : {F : Type 0} (folders : FolderGhosts F) (folder : F) (asked : Asked) (fault : Fault) → IsOfLocale fault → SaysUnknown (locale_named (Some asked)) fault →
    IsEarlyFault folders folder folder asked fault
of_locale folders folder asked (UnknownLocale tag) of unknown = record {
  says = record {
    refused = λ is. absurd is;
    unknown = unknown;
    unopened = λ of. refl;
    files = on_named folders folder folder (Some asked) (UnknownLocale tag) (record { reached = tt; not_utf8 = tt; unreadable = refl });
    right = right_by (folders.contents folder) (Some asked) (UnknownLocale tag) tt;
  };
  not_input = λ is. absurd cc;
  not_output = λ is. absurd cc;
}
of_locale folders folder asked fault of unknown = absurd of

-- there is no such message, or the files are not tidied
abbrev IsRefusal : Fault → Type 0
IsRefusal (CarriageReturn place) = Unit {0}
IsRefusal (NotNormal report) = Unit {0}
IsRefusal NotTree = Unit {0}
IsRefusal NotJson = Unit {0}
IsRefusal (NoMessage meant) = Unit {0}
IsRefusal fault = ⊥

pub of_refusal : {F : Type 0} (folders : FolderGhosts F) (before after : F) (asked : Asked) (fault : Fault) → IsRefusal fault → folders.failures after ≡ folders.failures before →
    IsRight (folders.contents before) (Some asked) fault → IsEarlyFault folders before after asked fault
of_refusal folders before after asked (CarriageReturn place) of same right =
    nameless folders before after asked (CarriageReturn place) (λ is. is) (λ is. absurd cc) (λ is. absurd cc) tt (λ of. of) (record { reached = tt; not_utf8 = tt; unreadable = same }) right
of_refusal folders before after asked (NotNormal report) of same right =
    nameless folders before after asked (NotNormal report) (λ is. is) (λ is. absurd cc) (λ is. absurd cc) tt (λ of. of) (record { reached = tt; not_utf8 = tt; unreadable = same }) right
of_refusal folders before after asked NotTree of same right =
    nameless folders before after asked NotTree (λ is. is) (λ is. absurd cc) (λ is. absurd cc) tt (λ of. of) (record { reached = tt; not_utf8 = tt; unreadable = same }) right
of_refusal folders before after asked NotJson of same right =
    nameless folders before after asked NotJson (λ is. is) (λ is. absurd cc) (λ is. absurd cc) tt (λ of. of) (record { reached = tt; not_utf8 = tt; unreadable = same }) right
of_refusal folders before after asked (NoMessage meant) of same right =
    nameless folders before after asked (NoMessage meant) (λ is. is) (λ is. absurd cc) (λ is. absurd cc) tt (λ of. of) (record { reached = tt; not_utf8 = tt; unreadable = same }) right
of_refusal folders before after asked fault of same right = absurd of

module _ {F : Type 0} (folders : FolderGhosts F) (before after : F) (t : Tidy) (same : folders.failures after ≡ folders.failures before) where
  -- refusals of the engine
  of_return : (fault : Fault) → SaysReturn fault → HoldReturn (folders.contents before) t → IsEarlyFault folders before after (tidy t) fault
  of_return fault says right = rw says.is (of_refusal folders before after (tidy t) (CarriageReturn says.place) tt same right)

  pub of_clean : (error : CleanError) (fault : Fault) → IsCleanFault error fault → (error ≡ clean.CarriageReturn → HoldReturn (folders.contents before) t) →
      IsEarlyFault folders before after (tidy t) fault
  of_clean clean.Memory fault is right = rw is (of_memory folders before after (tidy t) same)
  of_clean clean.CarriageReturn fault is right = of_return fault is (right refl)

  pub of_normalize : (error : NormalizeError) (fault : Fault) → IsNormalizeFault error fault →
      (error ≡ normalize.CarriageReturn → HoldReturn (folders.contents before) t) →
      (error ≡ normalize.NotNormal → HaveNoNormalText (folders.contents before) t) → IsEarlyFault folders before after (tidy t) fault
  of_normalize normalize.Memory fault is right none = rw is (of_memory folders before after (tidy t) same)
  of_normalize normalize.CarriageReturn fault is right none = of_return fault is (right refl)
  of_normalize normalize.NotNormal fault is right none = rw is.is (of_refusal folders before after (tidy t) (NotNormal is.report) tt same (none refl))

  pub of_import : (error : ImportError) → (error ≡ import.NotNormal → HaveNoNormalText (folders.contents before) t) →
      (error ≡ import.Shape → HoldNoTree (folders.contents before) t) → IsEarlyFault folders before after (tidy t) (import_fault error)
  of_import import.Memory none shape = of_memory folders before after (tidy t) same
  of_import import.NotNormal none shape = of_refusal folders before after (tidy t) (NotNormal None) tt same (none refl)
  of_import import.Shape none shape = of_refusal folders before after (tidy t) NotTree tt same (shape refl)

-- what the output's fault says, after all files were read
pub of_output : {F : Type 0} (folders : FolderGhosts F) (before after : F) (asked : Option Asked) → folders.failures after ≡ folders.failures before →
    (fault : Fault) → fault ≡ Output → IsFaultOf folders before after asked fault
of_output folders before after asked same fault is = rw is (of_device folders before after asked Output tt same)

module _ {W : Type 0} (sink : SinkGhosts W) where
  -- nothing was written
  pub text_unwritten : (writer : W) (fault : Fault) → fault ≢ Input → fault ≢ Output → IsTextFault sink writer writer fault
  text_unwritten writer fault not_input not_output =
      record { not_input = not_input; unwritten = λ other. refl; failed = λ is. absurd (not_output is) }

  -- the text was not written whole
  pub text_cut : (writer writer' : W) → HasFailed (sink.failures writer) (sink.failures writer') → (fault : Fault) → fault ≡ Output →
      IsTextFault sink writer writer' fault
  text_cut writer writer' failed fault is = rw is (record { not_input = λ input. absurd cc; unwritten = λ other. absurd (other refl); failed = λ output. failed })

module _ {R W : Type 0} (source : SourceGhosts R) (sink : SinkGhosts W) where
  -- nothing was read but files, and nothing was written
  pub untouched_devices : (reader : R) (writer : W) (fault : Fault) → fault ≢ Input → fault ≢ Output → IsDeviceFault source reader reader sink writer writer fault
  untouched_devices reader writer fault not_input not_output = record {
    unread = λ early. refl;
    unwritten = λ early. refl;
    given_up = λ is. absurd (not_input is);
    failed = λ is. absurd (not_output is);
  }

  not_output : (fault : Fault) → IsBeforeInput fault → fault ≡ Output → ⊥
  not_output fault early is = rw is at early

  -- nothing was read but files
  pub unread_device : (reader : R) (writer writer' : W) (fault : Fault) → IsTextFault sink writer writer' fault →
      IsDeviceFault source reader reader sink writer writer' fault
  unread_device reader writer writer' fault f = record {
    unread = λ early. refl;
    unwritten = λ early. f.unwritten (not_output fault early);
    given_up = λ is. absurd (f.not_input is);
    failed = f.failed;
  }

  -- a run ended
  pub run_stops : (reader reader' : R) (writer writer' : W) (error : RunError) →
      (error ≡ RunRead → GivesUp source reader reader' 4294967296) → (error ≡ RunWrite → HasFailed (sink.failures writer) (sink.failures writer')) →
      IsDeviceFault source reader reader' sink writer writer' (run_fault error)
  run_stops reader reader' writer writer' RunMemory given_up failed =
      record { unread = λ early. absurd early; unwritten = λ early. absurd early; given_up = λ is. absurd cc; failed = λ is. absurd cc }
  run_stops reader reader' writer writer' RunRead given_up failed =
      record { unread = λ early. absurd early; unwritten = λ early. absurd early; given_up = λ is. given_up refl; failed = λ is. absurd cc }
  run_stops reader reader' writer writer' RunWrite given_up failed =
      record { unread = λ early. absurd early; unwritten = λ early. absurd early; given_up = λ is. absurd cc; failed = λ is. failed refl }

  -- a text that the words ask for, of help or of the version, was not written whole
  pub asked_cut : (reader : R) (writer writer' : W) (result : Result Ended Fault) → IfErr result (λ fault. fault ≡ Output) →
      OnErr result (HasFailed (sink.failures writer) (sink.failures writer')) → IfErr result (IsDeviceFault source reader reader sink writer writer')
  asked_cut reader writer writer' (Ok end) is failed = tt
  asked_cut reader writer writer' (Err fault) is failed =
      rw is (record { unread = λ early. refl; unwritten = λ early. absurd early; given_up = λ input. absurd cc; failed = λ output. failed })

-- all files were read, and a run ended
pub of_run : {F : Type 0} (folders : FolderGhosts F) (before after : F) (asked : Option Asked) → folders.failures after ≡ folders.failures before →
    (error : RunError) → IsFaultOf folders before after asked (run_fault error)
of_run folders before after asked same RunMemory = of_device folders before after asked Memory tt same
of_run folders before after asked same RunRead = of_device folders before after asked Input tt same
of_run folders before after asked same RunWrite = of_device folders before after asked Output tt same

-- no file is read for a text of help or of the version
pub of_asked : {F : Type 0} (folders : FolderGhosts F) (folder : F) (asked : Option Asked) (result : Result Ended Fault) → IfErr result (λ fault. fault ≡ Output) →
    IfErr result (IsFaultOf folders folder folder asked)
of_asked folders folder asked result is = IfErr-weaker result _ _ (of_output folders folder folder asked refl) is

-- memory ran out while the words were read
pub of_words : {F : Type 0} (folders : FolderGhosts F) (folder : F) (asked : Option Asked) → IsFaultOf folders folder folder asked Memory
of_words folders folder asked = of_device folders folder folder asked Memory tt refl

-- the words are bad, and ask for nothing
pub of_bad_words : {F : Type 0} (folders : FolderGhosts F) (folder : F) (asked : Option Asked) (advice : Option (String Global)) → asked ≡ None →
    IsFaultOf folders folder folder asked (CommandLine advice)
of_bad_words folders folder asked advice nothing = record {
  refused = λ is. nothing;
  unknown = tt;
  unopened = λ of. absurd of;
  files = on_named folders folder folder asked (CommandLine advice) (record { reached = tt; not_utf8 = tt; unreadable = refl });
  right = right_by (folders.contents folder) asked (CommandLine advice) tt;
}

-- ---- what became of the devices

module _ {F R W : Type 0} (folders : FolderGhosts F) (source : SourceGhosts R) (sink : SinkGhosts W) (reader : R) (writer : W) (asked : Option Asked) where
  -- files were read, and then a text was written
  pub text_devices : (before after : F) (writer' : W) (result : Result Ended Fault) → OnOk result (TextWorks folders before after sink writer writer') →
      IfErr result (IsFaultOf folders before after asked) → IfErr result (IsTextFault sink writer writer') →
      DevicesEnd folders before after source reader reader sink writer writer' asked result
  text_devices before after writer' result works fault stops = record {
    opens = on_ok_weaker result (λ w. of_any asked w.opens) works;
    reads = on_ok_always result refl;
    writes = on_ok_weaker result (λ w. w.writes) works;
    fault = fault;
    stops = IfErr-weaker result _ _ (unread_device source sink reader writer writer') stops;
  }

  -- a text was written that the words ask for
  pub asked_devices : (folder : F) (writer' : W) (result : Result Ended Fault) → OnOk result (sink.failures writer' ≡ sink.failures writer) →
      IfErr result (λ fault. fault ≡ Output) → OnErr result (HasFailed (sink.failures writer) (sink.failures writer')) →
      DevicesEnd folders folder folder source reader reader sink writer writer' asked result
  asked_devices folder writer' result writes fault failed = record {
    opens = on_ok_always result (of_any asked refl);
    reads = on_ok_always result refl;
    writes = writes;
    fault = of_asked folders folder asked result fault;
    stops = asked_cut source sink reader writer writer' result fault failed;
  }

  -- nothing was read or written
  pub early_devices : (folder : F) (fault : Fault) → fault ≢ Input → fault ≢ Output → IsFaultOf folders folder folder asked fault →
      DevicesEnd folders folder folder source reader reader sink writer writer asked (Err fault)
  early_devices folder fault not_input not_output says = record {
    opens = tt;
    reads = tt;
    writes = tt;
    fault = says;
    stops = untouched_devices source sink reader writer fault not_input not_output;
  }

-- ---- files that are listed

-- memory ran out, or the output failed
abbrev IsOfListed : Fault → Type 0
IsOfListed fault = (fault ≡ Memory) ⊎ (fault ≡ Output)

module _ {F : Type 0} (folders : FolderGhosts F) (before after : F) (t : TidyFiles) where
  in_place_fault : (fault : Fault) → IsOfListed fault → IsFaultOf folders before after (Some (tidy_files t)) fault
  in_place_fault fault (inl is) = rw is (record { refused = λ bad. absurd bad; unknown = tt; unopened = λ of. absurd of; files = tt; right = tt })
  in_place_fault fault (inr is) = rw is (record { refused = λ bad. absurd bad; unknown = tt; unopened = λ of. absurd of; files = tt; right = tt })

  -- their names were written
  pub in_place_devices : {R W : Type 0} (source : SourceGhosts R) (sink : SinkGhosts W) (reader : R) (writer writer' : W) (result : Result Ended Fault) →
      OnOk result (sink.failures writer' ≡ sink.failures writer) → IfErr result IsOfListed →
      IfErr result (IsTextFault sink writer writer') → DevicesEnd folders before after source reader reader sink writer writer' (Some (tidy_files t)) result
  in_place_devices source sink reader writer writer' result writes fault stops = record {
    opens = on_ok_always result tt;
    reads = on_ok_always result refl;
    writes = writes;
    fault = IfErr-weaker result _ _ in_place_fault fault;
    stops = IfErr-weaker result _ _ (unread_device source sink reader writer writer') stops;
  }

-- ---- standard input that is tidied

module _ {F : Type 0} (folders : FolderGhosts F) (folder : F) (checked : Bool) where
  input_fault : (fault : Fault) → IsOfStreams fault → IsFaultOf folders folder folder (Some (tidy_input checked)) fault
  input_fault fault (inl is) = rw is (of_device folders folder folder (Some (tidy_input checked)) Memory tt refl)
  input_fault fault (inr (inl is)) = rw is (of_device folders folder folder (Some (tidy_input checked)) Input tt refl)
  input_fault fault (inr (inr is)) = rw is (of_device folders folder folder (Some (tidy_input checked)) Output tt refl)

  -- no file was read or written
  pub input_devices : {R W : Type 0} (source : SourceGhosts R) (sink : SinkGhosts W) (reader reader' : R) (writer writer' : W) (result : Result Ended Fault) →
      OnOk result (source.failures reader' ≡ source.failures reader) → OnOk result (sink.failures writer' ≡ sink.failures writer) → IfErr result IsOfStreams →
      IfErr result (IsDeviceFault source reader reader' sink writer writer') →
      DevicesEnd folders folder folder source reader reader' sink writer writer' (Some (tidy_input checked)) result
  input_devices source sink reader reader' writer writer' result reads writes fault stops = record {
    opens = on_ok_always result refl;
    reads = reads;
    writes = writes;
    fault = IfErr-weaker result _ _ input_fault fault;
    stops = stops;
  }

-- ---- a catalog that is linted

module _ {F : Type 0} (folders : FolderGhosts F) (before after : F) (l : Lint) where
  lint_fault : (fault : Fault) → IsOfListed fault → IsFaultOf folders before after (Some (lint l)) fault
  lint_fault fault (inl is) = rw is (record { refused = λ bad. absurd bad; unknown = tt; unopened = λ of. absurd of; files = tt; right = tt })
  lint_fault fault (inr is) = rw is (record { refused = λ bad. absurd bad; unknown = tt; unopened = λ of. absurd of; files = tt; right = tt })

  pub lint_output : (fault : Fault) → fault ≡ Output → IsFaultOf folders before after (Some (lint l)) fault
  lint_output fault is = lint_fault fault (inr is)

  pub lint_memory : IsEarlyFault folders before after (lint l) Memory
  lint_memory = record { says = lint_fault Memory (inl refl); not_input = λ is. absurd cc; not_output = λ is. absurd cc }

  -- the report was written
  pub lint_devices : {R W : Type 0} (source : SourceGhosts R) (sink : SinkGhosts W) (reader : R) (writer writer' : W) (result : Result Ended Fault) →
      OnOk result (sink.failures writer' ≡ sink.failures writer) → IfErr result (IsFaultOf folders before after (Some (lint l))) →
      IfErr result (IsTextFault sink writer writer') → DevicesEnd folders before after source reader reader sink writer writer' (Some (lint l)) result
  lint_devices source sink reader writer writer' result writes fault stops = record {
    opens = on_ok_always result tt;
    reads = on_ok_always result refl;
    writes = writes;
    fault = fault;
    stops = IfErr-weaker result _ _ (unread_device source sink reader writer writer') stops;
  }

-- ---- a project

module _ {F : Type 0} (folders : FolderGhosts F) (before after : F) where
  project_lint_fault : (l : ProjectLint) (fault : Fault) → IsOfProject fault → IsFaultOf folders before after (Some (lint_project l)) fault
  project_lint_fault l (Project text) of = record { refused = λ bad. absurd bad; unknown = tt; unopened = λ of. absurd of; files = tt; right = tt }
  project_lint_fault l Output of = record { refused = λ bad. absurd bad; unknown = tt; unopened = λ of. absurd of; files = tt; right = tt }
  project_lint_fault l Memory of = record { refused = λ bad. absurd bad; unknown = tt; unopened = λ of. absurd of; files = tt; right = tt }
  project_lint_fault l fault of = absurd of

  status_fault : (s : Status) (fault : Fault) → IsOfProject fault → IsFaultOf folders before after (Some (status s)) fault
  status_fault s (Project text) of = record { refused = λ bad. absurd bad; unknown = tt; unopened = λ of. absurd of; files = tt; right = tt }
  status_fault s Output of = record { refused = λ bad. absurd bad; unknown = tt; unopened = λ of. absurd of; files = tt; right = tt }
  status_fault s Memory of = record { refused = λ bad. absurd bad; unknown = tt; unopened = λ of. absurd of; files = tt; right = tt }
  status_fault s fault of = absurd of

  module _ {R W : Type 0} (source : SourceGhosts R) (sink : SinkGhosts W) (reader : R) (writer writer' : W) (result : Result Ended Fault) where
    -- its report was written
    pub project_lint_devices : (l : ProjectLint) → OnOk result (sink.failures writer' ≡ sink.failures writer) → IfErr result IsOfProject →
        IfErr result (IsTextFault sink writer writer') → DevicesEnd folders before after source reader reader sink writer writer' (Some (lint_project l)) result
    project_lint_devices l writes fault stops = record {
      opens = on_ok_always result tt;
      reads = on_ok_always result refl;
      writes = writes;
      fault = IfErr-weaker result _ _ (project_lint_fault l) fault;
      stops = IfErr-weaker result _ _ (unread_device source sink reader writer writer') stops;
    }

    -- or its table
    pub status_devices : (s : Status) → OnOk result (sink.failures writer' ≡ sink.failures writer) → IfErr result IsOfProject →
        IfErr result (IsTextFault sink writer writer') → DevicesEnd folders before after source reader reader sink writer writer' (Some (status s)) result
    status_devices s writes fault stops = record {
      opens = on_ok_always result tt;
      reads = on_ok_always result refl;
      writes = writes;
      fault = IfErr-weaker result _ _ (status_fault s) fault;
      stops = IfErr-weaker result _ _ (unread_device source sink reader writer writer') stops;
    }

-- the output failed
pub project_output : (fault : Fault) → fault ≡ Output → IsOfProject fault
project_output fault is = rw is tt

-- the project is wrong, or memory ran out
pub of_project : (error : ProjectError) → IsOfProject (project_fault error)
of_project error.Memory = tt
of_project (error.Wrong text) = tt

pub project_unwritten : {W : Type 0} (sink : SinkGhosts W) (writer : W) (error : ProjectError) → IsTextFault sink writer writer (project_fault error)
project_unwritten sink writer error.Memory = text_unwritten sink writer Memory (λ is. absurd cc) (λ is. absurd cc)
project_unwritten sink writer (error.Wrong text) = text_unwritten sink writer (Project text) (λ is. absurd cc) (λ is. absurd cc)

-- ---- standard input that is linted

module _ {F : Type 0} (folders : FolderGhosts F) (before after : F) (l : Lint) where
  lint_input_fault : (fault : Fault) → IsOfStreams fault → IsFaultOf folders before after (Some (lint_input l)) fault
  lint_input_fault fault (inl is) = rw is (record { refused = λ bad. absurd bad; unknown = tt; unopened = λ of. absurd of; files = tt; right = tt })
  lint_input_fault fault (inr (inl is)) = rw is (record { refused = λ bad. absurd bad; unknown = tt; unopened = λ of. absurd of; files = tt; right = tt })
  lint_input_fault fault (inr (inr is)) = rw is (record { refused = λ bad. absurd bad; unknown = tt; unopened = λ of. absurd of; files = tt; right = tt })

  pub lint_input_memory : IsFaultOf folders before after (Some (lint_input l)) Memory
  lint_input_memory = lint_input_fault Memory (inl refl)

  pub lint_input_read : (fault : Fault) → (fault ≡ Memory) ⊎ (fault ≡ Input) → IsFaultOf folders before after (Some (lint_input l)) fault
  lint_input_read fault (inl is) = lint_input_fault fault (inl is)
  lint_input_read fault (inr is) = lint_input_fault fault (inr (inl is))

  pub lint_input_output : (fault : Fault) → fault ≡ Output → IsFaultOf folders before after (Some (lint_input l)) fault
  lint_input_output fault is = lint_input_fault fault (inr (inr is))

  -- the report was written
  pub lint_input_devices : {R W : Type 0} (source : SourceGhosts R) (sink : SinkGhosts W) (reader reader' : R) (writer writer' : W) (result : Result Ended Fault) →
      OnOk result (source.failures reader' ≡ source.failures reader) → OnOk result (sink.failures writer' ≡ sink.failures writer) →
      IfErr result (IsFaultOf folders before after (Some (lint_input l))) → IfErr result (IsDeviceFault source reader reader' sink writer writer') →
      DevicesEnd folders before after source reader reader' sink writer writer' (Some (lint_input l)) result
  lint_input_devices source sink reader reader' writer writer' result reads writes fault stops = record {
    opens = on_ok_always result tt;
    reads = reads;
    writes = writes;
    fault = fault;
    stops = stops;
  }

module _ {R : Type 0} (source : SourceGhosts R) (reader reader' : R) where
  -- memory ran out
  pub read_memory : IsReadFault source reader reader' Memory
  read_memory = record { unread = λ early. absurd early; not_output = λ output. absurd cc; given_up = λ input. absurd cc }

  -- or the input failed
  pub of_read : (fault : Fault) → (fault ≡ Memory) ⊎ (fault ≡ Input) → (fault ≡ Input → GivesUp source reader reader' 4294967296) → IsReadFault source reader reader' fault
  of_read fault (inl is) given_up = rw is (record { unread = λ early. absurd early; not_output = λ output. absurd cc; given_up = λ input. absurd cc })
  of_read fault (inr is) given_up = rw is (record { unread = λ early. absurd early; not_output = λ output. absurd cc; given_up = λ input. given_up is })

  module _ {W : Type 0} (sink : SinkGhosts W) where
    -- nothing was written
    pub read_device : (writer : W) (fault : Fault) → IsReadFault source reader reader' fault → IsDeviceFault source reader reader' sink writer writer fault
    read_device writer fault f =
        record { unread = f.unread; unwritten = λ early. refl; given_up = f.given_up; failed = λ is. absurd (f.not_output is) }

    -- the report was not written whole
    pub report_cut : (writer writer' : W) → HasFailed (sink.failures writer) (sink.failures writer') → (fault : Fault) → fault ≡ Output →
        IsDeviceFault source reader reader' sink writer writer' fault
    report_cut writer writer' failed fault is =
        rw is (record { unread = λ early. absurd early; unwritten = λ early. absurd early; given_up = λ input. absurd cc; failed = λ output. failed })

-- the locale was not found, and nothing is read
pub lint_input_locale : {F : Type 0} (folders : FolderGhosts F) (folder : F) (l : Lint) (fault : Fault) → IsOfLocale fault → SaysUnknown (locale_named (Some (lint_input l))) fault →
    IsFaultOf folders folder folder (Some (lint_input l)) fault
lint_input_locale folders folder l fault of unknown = (of_locale folders folder (lint_input l) fault of unknown).says

pub read_locale : {R : Type 0} (source : SourceGhosts R) (reader : R) (fault : Fault) → IsOfLocale fault → IsReadFault source reader reader fault
read_locale source reader (UnknownLocale tag) of = record { unread = λ early. refl; not_output = λ output. absurd cc; given_up = λ input. absurd cc }
read_locale source reader fault of = absurd of
