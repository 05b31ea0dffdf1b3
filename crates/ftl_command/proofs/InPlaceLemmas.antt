-- What becomes of files if nothing was done.
use Rattle.std.proofs.Common.{[], Option, None, Some, Err, inl, refl}
use Rattle.fluent_serve.specs.Text.{Text}
use Rattle.fluent_serve.specs.Exchange.{devices_of}
use Rattle.ftl_arguments.specs.Meaning.{Asked, run, format, check, lint, lint_input, lint_project, status, tidy_files, tidy_input, tidy}
use Rattle.ftl_files.specs.Files.{State}
use Rattle.ftl_command.specs.InPlace.{FilesEnd}
use Rattle.ftl_command.specs.declared.fault.Fault.TheVariants.{Memory}

-- memory ran out before any file was read
pub none_tidied : (asked : Option Asked) (files : State) (left held : Option Text) → FilesEnd asked files files (devices_of left left held held) (Err Memory)
none_tidied None files left held = refl
none_tidied (Some (run r)) files left held = refl
none_tidied (Some (format f)) files left held = refl
none_tidied (Some (check fs)) files left held = refl
none_tidied (Some (lint l)) files left held = record { linted = tt; output = λ is. absurd cc; kept = refl }
none_tidied (Some (lint_input l)) files left held = record { linted = tt; memory = λ is. refl; input = λ is. refl; output = λ is. absurd cc; kept = refl }
none_tidied (Some (lint_project l)) files left held = record {
  middle = files;
  baseline = [];
  ends = record { done = tt; output = λ is. absurd cc; kept = refl };
  written = tt;
  kept = inl refl;
}
none_tidied (Some (status s)) files left held = record { done = tt; output = λ is. absurd cc; kept = refl }
none_tidied (Some (tidy_files t)) files left held = record { done = tt; memory = λ is. inl refl; output = λ is. absurd cc }
none_tidied (Some (tidy_input checked)) files left held = refl
none_tidied (Some (tidy t)) files left held = refl
