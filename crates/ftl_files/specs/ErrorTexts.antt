-- The texts of why a file was not read, or not replaced.
use Rattle.std.specs.Prelude.{ℕ, List, codes}
use Rattle.ftl_files.specs.declared.folder.FileError.{FileError}
use Rattle.ftl_files.specs.declared.folder.FileError.TheVariants as file
use Rattle.ftl_files.specs.declared.folder.ReplaceError.{ReplaceError}
use Rattle.ftl_files.specs.declared.folder.ReplaceError.TheVariants as replace

abbrev pub file_text : FileError → List ℕ
file_text file.Memory = codes "out of memory"
file_text file.Unreadable = codes "cannot read"

abbrev pub replace_text : ReplaceError → List ℕ
replace_text replace.Memory = codes "out of memory"
replace_text replace.Unwritable = codes "cannot write"
