use Rattle.std.proofs.Common.{◌∙◌, ◌<◌, ap, map, subst, sym}
use Rattle.std.proofs.lemmas.List.{take_all}
use Rattle.fluent_ids.specs.IdsView.{ids_view}
use Rattle.fluent_lint.specs.Own.{ids_of_tree, wide_of_tree, wide_view}
use Rattle.fluent_lint.proofs.Loops.{one_pushed}
use Rattle.fluent_lint.proofs.Parallel.{same_at, same_length}
use Rattle.fluent_lint.proofs.own.wide_by_file.Goals as goal

pub loop-index-preserved : goal.loop-index-preserved
loop-index-preserved c =
    one_pushed c.args.trees.now c.loop-index.index c.index-trees-index.result c.loop-index-test.true c.index-trees-index.is
    wide_view (wide_of_tree c.args.trees.now) c.loop-index.all.items c.push.new.self.items _ c.in_ok-push.ensures.items c.in_ok-ids.ensures c.loop-index.invariant

pub returns : goal.returns
returns c = c.loop-index.invariant ∙ ap (map (wide_of_tree c.args.trees.now)) (take_all c.loop-index.index c.args.trees.now c.loop-index-test.false)

pub bounds-own-index : goal.bounds-own-index
bounds-own-index c =
    subst (λ n. c.loop-index.index < n) (sym (same_length (ids_view (Unit {0})) ids_of_tree c.args.own.now c.args.trees.now c.requires)) c.loop-index-test.true

pub wide_ids-requires : goal.wide_ids-requires
wide_ids-requires c =
    ap (ids_view (Unit {0})) c.index-own-index.is
    ∙ same_at (ids_view (Unit {0})) ids_of_tree c.args.own.now c.args.trees.now c.requires c.loop-index.index c.index-own-index.result c.index-trees-index.result
    (subst (λ n. c.loop-index.index < n) (sym (same_length (ids_view (Unit {0})) ids_of_tree c.args.own.now c.args.trees.now c.requires)) c.loop-index-test.true)
    ∙ ap ids_of_tree (sym c.index-trees-index.is)
