use Rattle.fluent_project.specs.PairViews.{tree_view}
use Rattle.fluent_project.specs.Pairs.{is_kept}
use Rattle.fluent_project.proofs.Removed.{all_said}
use Rattle.fluent_project.proofs.pairs.Tree.pairs.Goals as goal

pub returns : goal.returns
returns c = λ path utf8.
    all_said (is_kept (tree_view c.args.self.now) c.args.locale.now) _ _ c.args.self.now.references.now c.new-pairs.result c.add_translations.new.pairs
    c.add_alone.new.pairs c.remove_all.new.pairs c.new-pairs.ensures.empty c.in_ok-add_translations.ensures c.in_ok-add_alone.ensures
    c.remove_all.ensures path utf8
