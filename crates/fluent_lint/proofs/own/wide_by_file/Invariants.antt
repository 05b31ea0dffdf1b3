use Rattle.std.proofs.Common.{◌≡◌, map, take}
use Rattle.fluent_lint.specs.Own.{wide_of_tree, wide_views}
use Rattle.fluent_lint.proofs.own.wide_by_file.Given as goal

abbrev pub invariant-loop-index : goal.invariant-loop-index
invariant-loop-index l = wide_views l.all.items ≡ map (wide_of_tree l.trees) (take l.index l.trees)
