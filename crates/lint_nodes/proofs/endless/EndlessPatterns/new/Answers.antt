use Rattle.std.proofs.Common.{sym, subst, List}
use Rattle.fluent_ids.specs.IdsView.{ids_view}
use Rattle.lint_findings.specs.Endless.{all_patterns}
use Rattle.lint_nodes.specs.Graph.{IsGraph, AreEndless}
use Rattle.lint_nodes.specs.Catalog.{ids_of_trees}
use Rattle.lint_nodes.specs.Holding.{Holds, patterns_of, entered}
use Rattle.lint_nodes.specs.ReferenceGraph.{graph_by}
use Rattle.lint_nodes.specs.declared.entered.EnteredPattern.{EnteredPattern}
use Rattle.lint_nodes.proofs.DeclaredIn.{no_others}
use Rattle.lint_nodes.proofs.Marked.{is_graph, say_what_is_entered, are_below}
use Rattle.lint_nodes.proofs.Whole.{whole}
use Rattle.lint_nodes.proofs.endless.EndlessPatterns.new.Goals as goal

pub endless_marks-requires : goal.endless_marks-requires
endless_marks-requires c =
    let ids = ids_view (Unit {0}) c.args.ids.now in
    let declared = ids_of_trees c.args.trees.now in
    let found = c.in_ok-entered.entered in
    let holds : Holds (all_patterns ids) found.indices (patterns_of found.patterns.items) (entered ids) = whole ids declared (no_others ids declared c.requires) found c.in_ok-entered.ensures in
    subst (λ (xs : List EnteredPattern). IsGraph (graph_by found.indices (patterns_of xs))) (sym c.deref.ensures.value)
    (is_graph ids found.indices (patterns_of found.patterns.items) holds)

pub invariant_of-result : goal.invariant_of-result
invariant_of-result c =
    let ids = ids_view (Unit {0}) c.args.ids.now in
    let declared = ids_of_trees c.args.trees.now in
    let found = c.in_ok-entered.entered in
    let ps = patterns_of found.patterns.items in
    let marks = c.in_ok-marks.marks.items in
    let holds : Holds (all_patterns ids) found.indices ps (entered ids) = whole ids declared (no_others ids declared c.requires) found c.in_ok-entered.ensures in
    let endless : AreEndless (graph_by found.indices ps) marks =
    subst (λ (xs : List EnteredPattern). AreEndless (graph_by found.indices (patterns_of xs)) marks) c.deref.ensures.value c.in_ok-marks.ensures in
    record {
      below = are_below ids found.indices ps holds marks endless;
      right = say_what_is_entered ids found.indices ps holds marks endless;
    }
