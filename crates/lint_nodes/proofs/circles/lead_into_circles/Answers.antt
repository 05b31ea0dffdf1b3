use Rattle.std.proofs.Common.{◌≡◌, ◌∙◌, ℕ, Bool, List, length, map, arith, sym, ap, subst}
use Rattle.std.proofs.Common.{Vec}
use Rattle.std.specs.Global.{Global}
use Rattle.std.proofs.lemmas.List.{length-map}
use Rattle.std.proofs.lemmas.Result.{IfOk-weaker}
use Rattle.lint_nodes.specs.Graph.{AreEndless, graph_of}
use Rattle.lint_nodes.specs.Path.{is_endless}
use Rattle.lint_nodes.proofs.Settled.{are_endless}
use Rattle.lint_nodes.proofs.circles.lead_into_circles.Goals as goal

pub returns : goal.returns
returns c =
    let g = graph_of c.args.graph.now in
    let ss = c.loop-node.states.items in
    let as_many : length g ≡ length c.args.graph.now = length-map c.args.graph.now (λ (nexts : Vec ℕ Global). nexts.items) in
    let endless : AreEndless g (map is_endless ss) = are_endless g ss c.loop-node.invariant.settled (λ v within. c.loop-node.invariant.known v (omega (arith, c.loop-node-test.false))) in
    let P : List Bool → Type 0 = λ marks. AreEndless g marks in
    IfOk-weaker c.endless_marks.result (λ marks. marks.items ≡ map is_endless c.deref.result.now) (λ marks. AreEndless g marks.items)
    (λ marks are. subst P (sym (are ∙ ap (map is_endless) c.deref.ensures.value)) endless) c.endless_marks.ensures
