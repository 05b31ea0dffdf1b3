use Rattle.std.proofs.Common.{drop}
use Rattle.fluent_project.specs.PairViews.{tree_view}
use Rattle.fluent_project.specs.Pairs.{is_kept, translations_by}
use Rattle.fluent_project.specs.Views.{plain}
use Rattle.fluent_project.proofs.Adding.{Leads}
use Rattle.fluent_project.proofs.pairs.Tree.add_from.Given as goal

abbrev pub invariant-loop-number : goal.invariant-loop-number
invariant-loop-number l =
    let locale = l.patterns.locale.now in
    let by = translations_by locale l.patterns.reference.now l.patterns.l10n.now in
    let files = l.self.references.now in
    Leads (is_kept (tree_view l.self) locale) (by l.number (plain (drop l.number files))) (by 0 (plain files)) l.initial.pairs l.pairs
