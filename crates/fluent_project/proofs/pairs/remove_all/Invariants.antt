use Rattle.std.proofs.Common.{drop}
use Rattle.fluent_project.proofs.Removed.{LeadsOut}
use Rattle.fluent_project.proofs.pairs.remove_all.Given as goal

abbrev pub invariant-loop-path : goal.invariant-loop-path
invariant-loop-path l = LeadsOut (drop l.path-index l.paths) l.paths l.initial.pairs l.pairs
