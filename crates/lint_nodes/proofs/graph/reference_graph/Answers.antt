use Rattle.std.proofs.Common.{◌≡◌, ◌∙◌, ℕ, ◌+◌, ◌<◌, List, [], ◌∷◌, ◌++◌, length, take, get_or, ap, sym}
use Rattle.std.specs.Global.{Vec}
use Rattle.std.proofs.lemmas.List.{map_more, map-append, take_all}
use Rattle.fluent_ast.specs.Borrowed.{elements_of}
use Rattle.lint_nodes.specs.Graph.{graph_of}
use Rattle.lint_nodes.specs.Holding.{patterns_of}
use Rattle.lint_nodes.specs.ReferenceGraph.{graph_by, next_indices}
use Rattle.lint_nodes.specs.declared.entered.EnteredPattern.{EnteredPattern}
use Rattle.lint_nodes.specs.declared.indices.Indices.{Indices}
use Rattle.lint_nodes.proofs.graph.reference_graph.Goals as goal

graph_more : (indices : Indices) (xs : List EnteredPattern) (i : ℕ) (p : EnteredPattern) → i < length xs → p ≡ get_or xs i p →
    graph_by indices (patterns_of (take (i + 1) xs)) ≡ graph_by indices (patterns_of (take i xs)) ++ next_indices indices (elements_of p.pattern.now) ∷ []
graph_more indices xs i p inside is =
    ap (graph_by indices) (map_more (λ (q : EnteredPattern). elements_of q.pattern.now) xs i p inside ∙ ap (λ (q : EnteredPattern). patterns_of (take i xs) ++ elements_of q.pattern.now ∷ []) (sym is))
    ∙ map-append (next_indices indices) (patterns_of (take i xs)) (elements_of p.pattern.now ∷ [])

pub loop-entered-preserved : goal.loop-entered-preserved
loop-entered-preserved c =
    let indices = c.args.indices.now in
    let xs = c.args.patterns.now in
    let i = c.loop-entered.entered-index in
    let new = c.in_ok-edges.field-0 in
    ap graph_of c.in_ok-push.ensures.items
    ∙ map-append (λ (v : Vec ℕ). v.items) c.loop-entered.graph.items (new ∷ [])
    ∙ (ap (λ g. g ++ new.items ∷ []) c.loop-entered.invariant ∙ ap (λ vs. graph_by indices (patterns_of (take i xs)) ++ vs ∷ []) c.in_ok-edges.ensures)
    ∙ sym (graph_more indices xs i c.entered-item.result c.loop-entered-test.true c.entered-item.is)

pub returns : goal.returns
returns c = c.loop-entered.invariant ∙ ap (λ xs. graph_by c.args.indices.now (patterns_of xs)) (take_all c.loop-entered.entered-index c.args.patterns.now c.loop-entered-test.false)
