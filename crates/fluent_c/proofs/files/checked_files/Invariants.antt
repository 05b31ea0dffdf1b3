-- The files before the index are read.
use Rattle.std.proofs.Common.{◌≡◌, take}
use Rattle.fluent_lint.specs.FileTiles.{files_view}
use Rattle.fluent_c.specs.Linting.{files_given}
use Rattle.fluent_c.proofs.files.checked_files.Given as goal

abbrev pub invariant-loop-file : goal.invariant-loop-file
invariant-loop-file l = files_view l.read.items ≡ files_given (take l.file-index l.files)
