-- The files before the index are UTF-8.
use Rattle.std.proofs.Common.{take}
use Rattle.fluent_c.specs.Linting.{AreUtf8Files}
use Rattle.fluent_c.proofs.files.are_files_utf8.Given as goal

abbrev pub invariant-loop-file : goal.invariant-loop-file
invariant-loop-file l = AreUtf8Files (take l.file-index l.files)
