use Rattle.fluent_project.specs.PairViews.{rule_view, tree_view}
use Rattle.fluent_project.specs.Pairs.{is_kept}
use Rattle.fluent_project.proofs.Adding.{alone_last, alone_next, leads_on, leads_to}
use Rattle.fluent_project.proofs.pairs.Tree.add_files.Goals as goal

pub loop-file-init : goal.loop-file-init
loop-file-init c = λ new adds. adds

pub loop-file-preserved : goal.loop-file-preserved
loop-file-preserved c =
    leads_on (is_kept (tree_view c.args.self.now) c.args.locale.now) _ _ _ _ c.args.pairs.now c.loop-file.pairs c.add_file.new.pairs
    (alone_next c.args.locale.now (rule_view c.args.rule.now) c.args.files.now c.loop-file.file-index _ c.loop-file-test.true)
    c.loop-file.invariant c.in_ok-add_file.ensures

pub returns : goal.returns
returns c =
    leads_to (is_kept (tree_view c.args.self.now) c.args.locale.now) _ _ c.args.pairs.now c.loop-file.pairs
    (alone_last c.args.locale.now (rule_view c.args.rule.now) c.args.files.now c.loop-file.file-index c.loop-file-test.false)
    c.loop-file.invariant
