use Rattle.std.proofs.Common.{ap, ◌∙◌, sym, false, [], ◌∷◌, ◌++◌, take}
use Rattle.std.proofs.lemmas.List.{take_all}
use Rattle.fluent_value.specs.declared.function.NoFunction.{NoFunction}
use Rattle.fluent_meaning.specs.Ids.{notices, number_pair, with_ids}
use Rattle.fluent_check.specs.Added.{tree_by_id, trees_by_id, ids_in}
use Rattle.fluent_answers.proofs.OneByOne.{pairs-ids-next, pairs-notices-next}
use Rattle.fluent_check.proofs.notices.notices_of_trees.Goals as goal

pub loop-tree-preserved : goal.loop-tree-preserved
loop-tree-preserved c =
    let all = c.args.trees.now in
    let k = c.loop-tree.tree-index in
    let one = c.tree-item.result in (
      c.in_ok-add.ensures.ids ∙ ap (λ ids. with_ids false ids (tree_by_id one)) c.loop-tree.invariant.0
          ∙ sym (pairs-ids-next tree_by_id (number_pair ∷ []) all k one c.loop-tree-test.true c.tree-item.is false),
      c.in_ok-add.ensures.notices ∙ ap (λ told. told ++ notices (ids_in c.loop-tree.added) (tree_by_id one)) c.loop-tree.invariant.1
          ∙ ap (λ ids. notices {F = NoFunction} (number_pair ∷ []) (trees_by_id (take k all)) ++ notices ids (tree_by_id one)) c.loop-tree.invariant.0
          ∙ sym (pairs-notices-next tree_by_id (number_pair ∷ []) all k one c.loop-tree-test.true c.tree-item.is),
    )

pub returns : goal.returns
returns c = c.loop-tree.invariant.1 ∙ ap (λ all. notices (number_pair ∷ []) (trees_by_id all)) (take_all c.loop-tree.tree-index c.args.trees.now c.loop-tree-test.false)
