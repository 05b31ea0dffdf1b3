use Rattle.std.proofs.Common.{length}
use Rattle.fluent_project.proofs.normal.+ends_folders.Given as goal

abbrev pub decreases-ends_folders : goal.decreases-ends_folders
decreases-ends_folders l = length l.name.now
