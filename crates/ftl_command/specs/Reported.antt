-- What an end reports, by what is said of sources that are tidied.
use Rattle.std.specs.Prelude.{◌≡◌, ℕ, Bool, ◌||◌, if◌then◌else◌, true, [], string_bytes}
use Rattle.fluent_serve.specs.Text.{Text}
use Rattle.ftl_command.specs.Faults.{end_status}
use Rattle.ftl_command.specs.declared.ended.Ended.{Ended}
use Rattle.ftl_command.specs.declared.ended.Ended.TheVariants.{Done, Found, Incomplete, NoFile, Partial, OutOfMemory}
use Rattle.ftl_files.specs.Reported.{is_any}
use Rattle.ftl_files.specs.Tidying.{Said}
use Rattle.ftl_files.specs.declared.reported.Reported.{Reported}

-- the lines of errors that an end reports
abbrev pub errors_in : Ended → Text
errors_in Done = []
errors_in Found = []
errors_in (Incomplete errors) = string_bytes errors
errors_in (NoFile errors) = string_bytes errors
errors_in (Partial errors) = string_bytes errors
errors_in (OutOfMemory errors) = string_bytes errors

-- 4 if memory ran out for a source, or it nests too deep, or else 3 if a file could not be read or written, or else 2 if a path stands for
-- no file, or else 1 if something was found
abbrev pub files_status : Reported → Bool → ℕ
files_status reported found =
    if reported.out_of_memory then 4 else if reported.failure then 3 else if reported.no_file then 2 else if found then 1 else 0

-- an end has that status, and reports these lines
pub record EndsOf (reported : Reported) (found : Bool) (errors : Text) (end : Ended) : Type 0 where
  pub status : end_status end ≡ files_status reported found
  pub reports : is_any reported || found ≡ true → errors_in end ≡ errors

-- an end has the status of what is said of files, and reports it
abbrev pub EndsBy : Said → Ended → Type 0
EndsBy said end = EndsOf said.reported said.has_found said.reports end
