use Rattle.std.proofs.Common.{◌∙◌, ap}
use Rattle.fluent_grammar.specs.Tiling.{tree}
use Rattle.lint_entries.specs.Kept.{kept_entries}
use Rattle.fluent_lint.proofs.Trees.{kept_bare}
use Rattle.fluent_lint.proofs.tiles.tiles_of_file.Goals as goal

pub source_tiles-requires-clause-tree : goal.source_tiles-requires-clause-tree
source_tiles-requires-clause-tree c = ap kept_entries c.requires.tree ∙ kept_bare (tree c.args.file.source.now)
