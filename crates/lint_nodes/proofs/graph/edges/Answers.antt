use Rattle.std.proofs.Common.{◌≡◌, ◌∙◌, List, [], ◌∷◌, map, refl, ap}
use Rattle.std.specs.List.{filter_map, cons_option}
use Rattle.std.proofs.lemmas.Result.{IfOk-weaker}
use Rattle.fluent_ast.specs.Borrowed.{elements_of}
use Rattle.lint_nodes.specs.NodeView.{node_view}
use Rattle.lint_nodes.specs.declared.nodes.Node.{Node}
use Rattle.lint_nodes.specs.ReferenceGraph.{next_indices, node_index}
use Rattle.lint_nodes.specs.declared.indices.Indices.{Indices}
use Rattle.lint_nodes.proofs.graph.edges.Goals as goal

viewed : (indices : Indices) (nodes : List Node) → filter_map (λ node. node_index indices (node_view node)) nodes ≡ filter_map (node_index indices) (map node_view nodes)
viewed indices [] = refl
viewed indices (node ∷ nodes) = ap (cons_option (node_index indices (node_view node))) (viewed indices nodes)

pub returns : goal.returns
returns c =
    let indices = c.args.indices.now in
    IfOk-weaker c.entered_by.result (λ found. found.items ≡ filter_map (λ node. node_index indices (node_view node)) c.deref.result.now) (λ found. found.items ≡ next_indices indices (elements_of c.args.pattern.now))
    (λ found is. is ∙ viewed indices c.deref.result.now ∙ ap (λ nodes. filter_map (node_index indices) (map node_view nodes)) c.deref.ensures.value ∙ ap (filter_map (node_index indices)) c.in_ok-nodes.ensures)
    c.entered_by.ensures
