-- What becomes of files: of those that are tidied in place, and of those that are only read.
use Rattle.std.specs.Prelude.{◌≡◌, Bool, List, Option, None, Some, Result, IfOk, IsErrOf}
use Rattle.std.specs.Io.KnownBytes.{Appends}
use Rattle.fluent_serve.specs.Text.{Text}
use denote.Ref.{Bor}
use Rattle.ftl_arguments.specs.CommandView.{command_view, lint_view, project_lint_view, tidy_files_view}
use Rattle.ftl_arguments.specs.Meaning.{Asked, command_of, run, format, check, lint, lint_input, lint_project, status, texts, tidy_files, tidy_input, tidy}
use Rattle.ftl_arguments.specs.declared.commands.Command.{Command}
use Rattle.ftl_arguments.specs.declared.commands.Lint as linted
use Rattle.ftl_arguments.specs.declared.commands.ProjectLint as linted_project
use Rattle.ftl_arguments.specs.declared.commands.TidyFiles as code
use Rattle.ftl_arguments.specs.TidyFiles.{TidyFiles}
use Rattle.fluent_serve.specs.Exchange.{Devices, devices}
use Rattle.fluent_serve.specs.declared.stream.Sink.{Ghosts as SinkGhosts}
use Rattle.fluent_serve.specs.declared.stream.Source.{Ghosts as SourceGhosts}
use Rattle.ftl_files.specs.Files.{State}
use Rattle.ftl_files.specs.States.{state_of}
use Rattle.ftl_files.specs.declared.folder.Folder.{Ghosts as FolderGhosts}
use Rattle.ftl_files.specs.Tidying.{AreTidied, AreTidiedFirst, Said}
use Rattle.ftl_command.specs.Linted.{LintEnds, LintInputEnds, Lints, LintsInput}
use Rattle.ftl_project.specs.Ends.{IsTable}
use Rattle.ftl_project.specs.Reports.{Written}
use Rattle.ftl_command.specs.Program.{WritesFront}
use Rattle.ftl_command.specs.Projects.{ProjectEnds, ProjectLintEnds}
use Rattle.ftl_command.specs.Reported.{EndsBy}
use Rattle.ftl_command.specs.declared.ended.Ended.{Ended}
use Rattle.ftl_command.specs.declared.fault.Fault.{Fault}
use Rattle.ftl_command.specs.declared.linting.Linted.{Linted}
use Rattle.ftl_command.specs.declared.fault.Fault.TheVariants.{Output, Memory}

-- the files are tidied, and the outcome holds of what is said of them
pub record TidiesInPlace (t : TidyFiles) (before after : State) (Outcome : Said → Type 0) : Type 0 where
  pub said : Said
  pub tidied : AreTidied t.check t.paths before after said
  pub outcome : Outcome said

-- What became of files that are tidied in place, by how it ended.
pub record InPlaceEnds (t : TidyFiles) (before after : State) (held held_after : Option Text) (result : Result Ended Fault) : Type 0 where
  pub done : IfOk result (λ end. TidiesInPlace t before after (λ said. Appends held held_after said.names × EndsBy said end))
  -- memory ran out: the first files are tidied
  pub memory : IsErrOf result Memory → AreTidiedFirst t.check t.paths before after
  -- all are, and a front of their names is written
  pub output : IsErrOf result Output → TidiesInPlace t before after (λ said. WritesFront held held_after said.names)

-- So it is of whatever the words ask for, and of a catalog or a project that is linted; to tidy standard input no file is read or
-- written. What files hold that are only read is what they held, however the command ended. A project that is linted may have its
-- baseline written.
abbrev pub FilesEnd : Option Asked → State → State → Devices → Result Ended Fault → Type 0
FilesEnd None before after d result = after.contents ≡ before.contents
FilesEnd (Some (run r)) before after d result = after.contents ≡ before.contents
FilesEnd (Some (format f)) before after d result = after.contents ≡ before.contents
FilesEnd (Some (check files)) before after d result = after.contents ≡ before.contents
FilesEnd (Some (lint l)) before after d result = LintEnds l before after d.held_before d.held_after result
FilesEnd (Some (lint_input l)) before after d result = LintInputEnds l before after d result
FilesEnd (Some (lint_project l)) before after d result = ProjectLintEnds l before after d.held_before d.held_after result
FilesEnd (Some (status s)) before after d result = ProjectEnds IsTable before after d.held_before d.held_after result
FilesEnd (Some (tidy_files t)) before after d result = InPlaceEnds t before after d.held_before d.held_after result
FilesEnd (Some (tidy_input checked)) before after d result = after ≡ before
FilesEnd (Some (tidy t)) before after d result = after.contents ≡ before.contents

-- the same on a folder and a writer, by what is known of them
module _ {F W : Type 0} (folders : FolderGhosts F) (before after : F) (sink : SinkGhosts W) (writer writer' : W) where
  -- of files that are tidied
  abbrev pub InPlaceEndsOn : code.TidyFiles → Result Ended Fault → Type 0
  InPlaceEndsOn t result =
      InPlaceEnds (tidy_files_view t) (state_of folders before) (state_of folders after) (sink.contents writer) (sink.contents writer') result

  -- of a catalog that is linted
  abbrev pub LintEndsOn : linted.Lint → Result Ended Fault → Type 0
  LintEndsOn l result =
      LintEnds (lint_view l) (state_of folders before) (state_of folders after) (sink.contents writer) (sink.contents writer') result

  -- of a project of which this is written
  abbrev pub ProjectEndOn : (Written → Type 0) → Result Ended Fault → Type 0
  ProjectEndOn Is result =
      ProjectEnds Is (state_of folders before) (state_of folders after) (sink.contents writer) (sink.contents writer') result

  -- of a project that is linted
  abbrev pub ProjectLintEndOn : linted_project.ProjectLint → Result Ended Fault → Type 0
  ProjectLintEndOn l result =
      ProjectLintEnds (project_lint_view l) (state_of folders before) (state_of folders after) (sink.contents writer) (sink.contents writer') result

-- and on a reader
module _ {F R W : Type 0} (folders : FolderGhosts F) (before after : F) (source : SourceGhosts R) (reader reader' : R) (sink : SinkGhosts W) (writer writer' : W) where
  -- of the input that is linted
  abbrev pub LintInputEndsOn : linted.Lint → Result Ended Fault → Type 0
  LintInputEndsOn l result =
      LintInputEnds (lint_view l) (state_of folders before) (state_of folders after) (devices source.remaining reader reader' sink.contents writer writer') result

  -- of what a command asks for, or of what words do
  abbrev pub FilesEndBy : Command → Result Ended Fault → Type 0
  FilesEndBy command result =
      FilesEnd (Some (command_view command)) (state_of folders before) (state_of folders after) (devices source.remaining reader reader' sink.contents writer writer') result

  abbrev pub FilesEndFor : Bool → List (Bor Text) → Result Ended Fault → Type 0
  FilesEndFor colours words result =
      FilesEnd (command_of colours (texts words)) (state_of folders before) (state_of folders after) (devices source.remaining reader reader' sink.contents writer writer') result

-- of the report on a catalog, by what is known of a folder before and after
module _ {F : Type 0} (folders : FolderGhosts F) (before after : F) where
  abbrev pub LintsOn : linted.Lint → Linted → Type 0
  LintsOn l made = Lints l (state_of folders before) (state_of folders after) made

-- and of the one on the input
module _ {F R : Type 0} (folders : FolderGhosts F) (before after : F) (source : SourceGhosts R) (reader reader' : R) where
  abbrev pub LintsInputOn : linted.Lint → Linted → Type 0
  LintsInputOn l made = LintsInput l (state_of folders before) (state_of folders after) (source.remaining reader) (source.remaining reader') made
