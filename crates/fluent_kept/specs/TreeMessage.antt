-- What an error shows.
use Rattle.std.specs.Prelude.{ℕ, List, codes}
use Rattle.fluent_kept.specs.declared.tree.error.TreeError.{TreeError}
use Rattle.fluent_kept.specs.declared.tree.error.TreeError.TheVariants.{Memory, NotJson, NotTree}

abbrev pub message : TreeError → List ℕ
message Memory = codes "out of memory"
message NotJson = codes "not JSON"
message NotTree = codes "not the value of a tree"
