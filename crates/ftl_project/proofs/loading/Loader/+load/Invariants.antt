use Rattle.std.proofs.Common.{◌≡◌}
use Rattle.ftl_project.proofs.loading.Loader.+load.Given as goal

-- the files are as they were
abbrev pub invariant-loop-link : goal.invariant-loop-link
invariant-loop-link g l = g.F.Folder.contents l.folder ≡ g.F.Folder.contents l.fn.folder

abbrev pub decreases-load : goal.decreases-load
decreases-load g l = l.depth
