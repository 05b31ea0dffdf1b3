-- Why a call on a file failed, in words.
use Rattle.std.specs.Prelude.{ℤ, Option, Some, None, codes}
use Rattle.fluent_serve.specs.Text.{Text}
use Rattle.std.specs.declared.io.ErrorKind.{ErrorKind}
use Rattle.std.specs.declared.io.ErrorKind.TheVariants.{NotFound, IsADirectory, PermissionDenied, StorageFull, QuotaExceeded, ReadOnlyFilesystem, InvalidFilename}

-- the words for a kind of error, which may have a number of the system; other kinds have none
abbrev pub words_for : ErrorKind → Option ℤ → Option Text
words_for NotFound number = Some (codes "no such file")
words_for IsADirectory number = Some (codes "is a folder")
words_for PermissionDenied number = Some (codes "no permission")
words_for StorageFull number = Some (codes "no space left")
words_for QuotaExceeded number = Some (codes "no space left")
words_for ReadOnlyFilesystem number = Some (codes "a read-only file system")
words_for InvalidFilename (Some number) = Some (codes "its name is too long")
words_for kind number = None
