use Rattle.std.proofs.Common.{◌≡◌}
use Rattle.ftl_files.proofs.trees.find_sources.Given as goal

-- what the files hold is as it was
abbrev pub invariant-loop-path : goal.invariant-loop-path
invariant-loop-path g l = g.F.Folder.contents l.folder ≡ g.F.Folder.contents l.fn.folder
