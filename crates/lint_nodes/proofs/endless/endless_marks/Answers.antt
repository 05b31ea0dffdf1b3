use Rattle.std.proofs.Common.{◌∙◌, sym, subst, ap, List, ℕ}
use Rattle.std.proofs.lemmas.Result.{IfOk-weaker}
use Rattle.lint_nodes.specs.Graph.{graph_of, IsGraph, AreEndless}
use Rattle.lint_nodes.specs.Holding.{patterns_of}
use Rattle.lint_nodes.specs.ReferenceGraph.{graph_by}
use Rattle.lint_nodes.proofs.endless.endless_marks.Goals as goal

pub lead_into_circles-requires : goal.lead_into_circles-requires
lead_into_circles-requires c = subst IsGraph (sym (ap graph_of c.deref.ensures.value ∙ c.in_ok-graph.ensures)) c.requires

pub returns : goal.returns
returns c =
    let g : List (List ℕ) = graph_of c.deref.result.now in
    let h : List (List ℕ) = graph_by c.args.indices.now (patterns_of c.args.patterns.now) in
    IfOk-weaker c.lead_into_circles.result (λ marks. AreEndless g marks.items) (λ marks. AreEndless h marks.items)
    (λ marks are. subst (λ (x : List (List ℕ)). AreEndless x marks.items) (ap graph_of c.deref.ensures.value ∙ c.in_ok-graph.ensures) are)
    c.lead_into_circles.ensures
