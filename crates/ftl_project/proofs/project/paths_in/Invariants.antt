use Rattle.std.proofs.Common.{◌≡◌, map, take}
use Rattle.fluent_project.specs.Views.{plain}
use Rattle.ftl_project.specs.Paths.{path_in, paths}
use Rattle.ftl_project.proofs.project.paths_in.Given as goal

-- the paths so far
abbrev pub invariant-loop-name : goal.invariant-loop-name
invariant-loop-name l = paths l.paths.items ≡ map (path_in l.here) (plain (take l.name-index l.names))
