-- What becomes of a project that is linted or counted.
use Rattle.std.specs.Prelude.{◌≡◌, ◌⊎◌, None, Option, Some, Result, IfOk, OnOk, IsErrOf, option_map}
use denote.Ref.{Bor}
use Rattle.std.specs.Io.KnownBytes.{Appends}
use Rattle.fluent_serve.specs.Text.{Text}
use Rattle.ftl_arguments.specs.Projects.{ProjectLint}
use Rattle.ftl_files.specs.Files.{IsReplaced, State}
use Rattle.ftl_project.specs.Ends.{baseline_of}
use Rattle.ftl_project.specs.declared.work.ProjectEnd.{ProjectEnd}
use Rattle.ftl_project.specs.Reading.{AreReadLater, Unread}
use Rattle.ftl_project.specs.ProjectReports.{IsProjectReport}
use Rattle.ftl_project.specs.Reports.{Written}
use Rattle.ftl_command.specs.Program.{WritesFront}
use Rattle.ftl_command.specs.Reported.{EndsOf}
use Rattle.ftl_command.specs.declared.ended.Ended.{Ended}
use Rattle.ftl_command.specs.declared.fault.Fault.{Fault}
use Rattle.ftl_command.specs.declared.fault.Fault.TheVariants.{Output}

-- What is asked for is to be written, files were read for it, and the outcome holds of both.
pub record OnProject (Is : Written → Type 0) (before after : State) (Outcome : Written → Unread → Type 0) : Type 0 where
  pub written : Written
  pub unread : Unread
  pub is : Is written
  pub read : AreReadLater before after unread
  pub outcome : Outcome written unread

-- An end has the status of what is written and of the files that could not be read, and reports those.
abbrev pub EndsProject : Written → Unread → Ended → Type 0
EndsProject written unread end = EndsOf unread.reported written.has_failed unread.errors end

-- A file of this name, if there is one, holds a baseline, and no other file changed.
abbrev pub HoldsBaseline : Option Text → Text → (Text → Option Text) → (Text → Option Text) → Type 0
HoldsBaseline None text old new = new ≡ old
HoldsBaseline (Some name) text old new = IsReplaced old new name text

-- It is that of the findings of a project that was linted.
abbrev pub HoldsFindings : Option (Bor Text) → ProjectEnd → (Text → Option Text) → (Text → Option Text) → Type 0
HoldsFindings name end old new = HoldsBaseline (option_map (λ file. file.now) name) (baseline_of end) old new

-- What became of a project, by how the command ended.
pub record ProjectEnds (Is : Written → Type 0) (before after : State) (held held_after : Option Text) (result : Result Ended Fault) : Type 0 where
  pub done : IfOk result (λ end. OnProject Is before after (λ written unread. Appends held held_after written.text × EndsProject written unread end))
  -- a front of what is to be written is written
  pub output : IsErrOf result Output → OnProject Is before after (λ written unread. WritesFront held held_after written.text)
  -- what the files hold is what they held
  pub kept : after.contents ≡ before.contents

-- The same of a project that is linted: then its baseline may be written, the last of all files.
pub record ProjectLintEnds (l : ProjectLint) (before after : State) (held held_after : Option Text) (result : Result Ended Fault) : Type 0 where
  pub middle : State
  pub baseline : Text
  pub ends : ProjectEnds (IsProjectReport l) before middle held held_after result
  pub written : OnOk result (HoldsBaseline l.written baseline middle.contents after.contents)
  -- after a fault, too, no other file changed
  pub kept : (after.contents ≡ middle.contents) ⊎ HoldsBaseline l.written baseline middle.contents after.contents
