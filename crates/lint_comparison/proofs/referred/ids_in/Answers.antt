use Rattle.std.proofs.Common.{◌∙◌, ap}
use Rattle.std.specs.List.{flat_map}
use Rattle.std.proofs.lemmas.List.{take_all}
use Rattle.lint_comparison.specs.Referred.{entries_ids, named_by, trees_ids}
use Rattle.lint_comparison.proofs.Naming.{sources_named}
use Rattle.lint_comparison.proofs.referred.ids_in.Goals as goal

pub returns : goal.returns
returns c = λ sources of_sources.
    let named = named_by c.args.what in
    c.loop-tree.invariant ∙ ap (trees_ids named) (take_all c.loop-tree.tree-index c.args.trees.now c.loop-tree-test.false)
    ∙ ap (flat_map (entries_ids named)) of_sources ∙ sources_named c.args.what sources
