-- What `tidy` is asked for, and which paths are standard input.
use Rattle.std.specs.Prelude.{Bool, false, List, [], ◌∷◌, codes}
use Rattle.std.specs.Str.{bytes_eq}
use Rattle.clap.specs.Words.{Row, Text}
use Rattle.ftl_arguments.specs.Found.{is_given, values_in}

-- tidy the files of these names in place, and the sources below the folders of these names
pub record TidyFiles : Type 0 where
  -- they are only checked
  pub check : Bool
  pub paths : List Text

abbrev pub tidy_files_in : List Row → TidyFiles
tidy_files_in rows = record { check = is_given (codes "check") rows; paths = values_in (codes "PATH") rows }

-- whether standard input is meant, and no file: a hyphen alone
abbrev pub is_input : List Text → Bool
is_input [] = false
is_input (path ∷ []) = bytes_eq path (codes "-")
is_input (path ∷ other ∷ others) = false
