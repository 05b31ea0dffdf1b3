-- What holds of a project that was linted or counted.
use Rattle.std.proofs.Common.{◌≡◌, Option, Result, Ok, Err, IfOk, OnErr, OnOk, string_bytes}
use Rattle.std.specs.Io.KnownBytes.{Appends}
use Rattle.fluent_serve.specs.Text.{Text}
use Rattle.ftl_files.specs.Files.{State}
use Rattle.ftl_project.specs.Ends.{unread_in, written_in}
use Rattle.ftl_project.specs.Reading.{AreReadLater}
use Rattle.ftl_project.specs.Reports.{Written}
use Rattle.ftl_project.specs.declared.work.ProjectEnd.{ProjectEnd}
use Rattle.ftl_project.specs.declared.wrong.ProjectError.{ProjectError}
use Rattle.ftl_project.specs.declared.wrong.ProjectError.TheVariants as error
use Rattle.ftl_command.specs.Faults.{project_fault}
use Rattle.ftl_command.specs.Program.{WritesFront}
use Rattle.ftl_command.specs.Projects.{EndsProject, ProjectEnds}
use Rattle.ftl_command.specs.declared.ended.Ended.{Ended}
use Rattle.ftl_command.specs.declared.fault.Fault.{Fault}

module _ (Is : Written → Type 0) (before after : State) (held held_after : Option Text) where
  -- it was written, or a front of it
  pub project_ends : (end : ProjectEnd) (result : Result Ended Fault) → Is (written_in end) → AreReadLater before after (unread_in end) →
      OnOk result (Appends held held_after (string_bytes end.text)) → IfOk result (EndsProject (written_in end) (unread_in end)) →
      OnErr result (WritesFront held held_after (string_bytes end.text)) → after.contents ≡ before.contents → ProjectEnds Is before after held held_after result
  project_ends end (Ok e) is read written ended front kept = record {
    done = record { written = written_in end; unread = unread_in end; is = is; read = read; outcome = (written, ended) };
    output = λ of. absurd cc;
    kept = kept;
  }
  project_ends end (Err fault) is read written ended front kept = record {
    done = tt;
    output = λ of. record { written = written_in end; unread = unread_in end; is = is; read = read; outcome = front };
    kept = kept;
  }

  -- the project is wrong, or memory ran out
  pub project_wrong : (error : ProjectError) → after.contents ≡ before.contents → ProjectEnds Is before after held held_after (Err (project_fault error))
  project_wrong error.Memory kept = record { done = tt; output = λ of. absurd cc; kept = kept }
  project_wrong (error.Wrong text) kept = record { done = tt; output = λ of. absurd cc; kept = kept }
