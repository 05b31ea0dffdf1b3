use Rattle.std.proofs.Common.{drop}
use Rattle.fluent_project.specs.PairViews.{rule_view, tree_view}
use Rattle.fluent_project.specs.Pairs.{alone_of, is_kept}
use Rattle.fluent_project.specs.Views.{plain}
use Rattle.fluent_project.proofs.Adding.{Leads}
use Rattle.fluent_project.proofs.pairs.Tree.add_files.Given as goal

abbrev pub invariant-loop-file : goal.invariant-loop-file
invariant-loop-file l =
    let rule = rule_view l.rule in
    Leads (is_kept (tree_view l.self) l.locale) (alone_of l.locale (plain (drop l.file-index l.files)) rule) (alone_of l.locale (plain l.files) rule) l.initial.pairs l.pairs
