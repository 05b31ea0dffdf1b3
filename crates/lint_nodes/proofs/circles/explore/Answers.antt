use Rattle.std.proofs.Common.{◌≡◌, ◌∙◌, ◌<◌, ◌≤◌, List, [], ◌∷◌, length, refl, ap, sym, arith}
use mathlib.Core.Logic.{inl, inr}
use Rattle.lint_nodes.specs.Graph.{graph_of, edges, edge}
use Rattle.lint_nodes.specs.Path.{KeepsKnown, state_at}
use Rattle.lint_nodes.specs.declared.states.State.TheVariants as of
use Rattle.lint_nodes.proofs.StateChanges.{known_set}
use Rattle.lint_nodes.proofs.Way.{IsStep, advance, go_on, go_back, finish, last_step}
use Rattle.lint_nodes.proofs.Circle.{back_to_path, into_endless, known_marked, nodes}
use Rattle.lint_nodes.proofs.Work.{less_go_on, less_go_back}
use Rattle.lint_nodes.proofs.Fetched.{there, past}
use Rattle.lint_nodes.proofs.circles.explore.Goals as goal

none_of : {X : Type 0} (xs : List X) → length xs ≡ 0 → xs ≡ []
none_of [] e = refl
none_of (x ∷ xs) e = absurd (omega arith)

pub returns-in_default-pop-clause-settled : goal.returns-in_default-pop-clause-settled
returns-in_default-pop-clause-settled c =
    let g = graph_of c.args.graph.now in
    let at = c.loop-next in
    let all : length (edges g at.node) ≤ at.followed = past (edges g at.node) at.followed (sym c.next_of.ensures.next ∙ c.in_default.is) in
    let empty : length at.parents.items ≡ 0 = sym at.parents.ok.0 ∙ c.in_default-pop.ensures.cases.0 in
    finish g c.requires.graph at.states at.parents.items at.node at.followed at.invariant.way all (none_of at.parents.items empty)

pub loop-next-smaller-in_default : goal.loop-next-smaller-in_default
loop-next-smaller-in_default c =
    let g = graph_of c.args.graph.now in
    let at = c.loop-next in
    let all : length (edges g at.node) ≤ at.followed = past (edges g at.node) at.followed (sym c.next_of.ensures.next ∙ c.in_default.is) in
    let step : IsStep g c.in-Some-pop.parent = last_step g c.requires.graph at.states at.parents.items at.node at.followed at.invariant.way all c.pop.new.self.items c.in-Some-pop.parent c.in-Some-pop.ensures.items in
    less_go_back g at.states at.parents.items at.node at.followed (omega (arith, at.invariant.way.within, at.invariant.way.right.long)) at.invariant.way.right.long at.invariant.way.here c.pop.new.self.items c.in-Some-pop.parent c.in-Some-pop.ensures.items step.fits

pub loop-next-preserved-in_default : goal.loop-next-preserved-in_default
loop-next-preserved-in_default c =
    let g = graph_of c.args.graph.now in
    let at = c.loop-next in
    let all : length (edges g at.node) ≤ at.followed = past (edges g at.node) at.followed (sym c.next_of.ensures.next ∙ c.in_default.is) in
    let inside : at.node < length at.states = omega (arith, at.invariant.way.within, at.invariant.way.right.long) in
    let known : KeepsKnown at.states _ = known_set at.states at.node of.Ends inside refl in
    record {
      way = go_back g c.requires.graph at.states at.parents.items at.node at.followed at.invariant.way all c.pop.new.self.items c.in-Some-pop.parent c.in-Some-pop.ensures.items;
      known = λ v h. known v (at.invariant.known v h);
      start = known c.args.start at.invariant.start;
    }

pub bounds : goal.bounds
bounds c =
    let g = graph_of c.args.graph.now in
    let at = c.loop-next in
    let here = there (edges g at.node) at.followed c.in-Some.next (sym c.next_of.ensures.next ∙ c.in-Some.is) in
    let within : edge g at.node at.followed < length g = c.requires.graph at.node at.followed here.0 in
    omega (arith, here.1, within, at.invariant.way.right.long)

pub bounds-states-next : goal.bounds-states-next
bounds-states-next c =
    let g = graph_of c.args.graph.now in
    let at = c.loop-next in
    let here = there (edges g at.node) at.followed c.in-Some.next (sym c.next_of.ensures.next ∙ c.in-Some.is) in
    let within : edge g at.node at.followed < length g = c.requires.graph at.node at.followed here.0 in
    omega (arith, here.1, within, at.invariant.way.right.long)

pub loop-next-preserved-in-Ends : goal.loop-next-preserved-in-Ends
loop-next-preserved-in-Ends c =
    let g = graph_of c.args.graph.now in
    let at = c.loop-next in
    let here = there (edges g at.node) at.followed c.in-Some.next (sym c.next_of.ensures.next ∙ c.in-Some.is) in
    record {
      way = advance g c.requires.graph at.states at.parents.items at.node at.followed at.invariant.way here.0 (ap (state_at at.states) (sym here.1) ∙ c.in-Ends.is);
      known = at.invariant.known;
      start = at.invariant.start;
    }

pub loop-next-smaller : goal.loop-next-smaller
loop-next-smaller c =
    let g = graph_of c.args.graph.now in
    let at = c.loop-next in
    let here = there (edges g at.node) at.followed c.in-Some.next (sym c.next_of.ensures.next ∙ c.in-Some.is) in
    let within : edge g at.node at.followed < length g = c.requires.graph at.node at.followed here.0 in
    rw c.in_ok-push-in-New.ensures.items (less_go_on g at.states at.parents.items at.node at.followed c.in-Some.next (omega (arith, here.1, within, at.invariant.way.right.long)) at.invariant.way.right.long here.0 c.in-New.is)

pub loop-next-preserved : goal.loop-next-preserved
loop-next-preserved c =
    let g = graph_of c.args.graph.now in
    let at = c.loop-next in
    let here = there (edges g at.node) at.followed c.in-Some.next (sym c.next_of.ensures.next ∙ c.in-Some.is) in
    let within : edge g at.node at.followed < length g = c.requires.graph at.node at.followed here.0 in
    let inside : c.in-Some.next < length at.states = omega (arith, here.1, within, at.invariant.way.right.long) in
    let known : KeepsKnown at.states _ = known_set at.states c.in-Some.next of.Open inside refl in
    record {
      way = rw c.in_ok-push-in-New.ensures.items (go_on g c.requires.graph at.states at.parents.items at.node at.followed at.invariant.way c.in-Some.next c.in-Some.ensures.small here.0 here.1 c.in-New.is);
      known = λ v h. known v (at.invariant.known v h);
      start = known c.args.start at.invariant.start;
    }

pub returns-in-Open-clause-settled : goal.returns-in-Open-clause-settled
returns-in-Open-clause-settled c =
    let g = graph_of c.args.graph.now in
    let at = c.loop-next in
    let here = there (edges g at.node) at.followed c.in-Some.next (sym c.next_of.ensures.next ∙ c.in-Some.is) in
    rw (c.mark_endless.ensures, c.deref.ensures.value)
    (elim c.in-Open.is [
      | inl opened ↦ back_to_path g at.states at.parents.items at.node at.followed at.invariant.way c.in-Some.next here.0 here.1 opened
      | inr endless ↦ into_endless g at.states at.parents.items at.node at.followed at.invariant.way c.in-Some.next here.0 here.1 endless
    ])

pub mark_endless-requires : goal.mark_endless-requires
mark_endless-requires c =
    let g = graph_of c.args.graph.now in
    let at = c.loop-next in
    let here = there (edges g at.node) at.followed c.in-Some.next (sym c.next_of.ensures.next ∙ c.in-Some.is) in
    rw c.deref.ensures.value (nodes g at.states at.parents.items at.node at.followed at.invariant.way c.in-Some.next here.0 here.1)

pub returns-in-Open-clause-known : goal.returns-in-Open-clause-known
returns-in-Open-clause-known c =
    let g = graph_of c.args.graph.now in
    let at = c.loop-next in
    let here = there (edges g at.node) at.followed c.in-Some.next (sym c.next_of.ensures.next ∙ c.in-Some.is) in
    let inside : at.node < length at.states = omega (arith, at.invariant.way.within, at.invariant.way.right.long) in
    let first : KeepsKnown at.states _ = known_set at.states at.node of.Endless inside refl in
    rw (c.mark_endless.ensures, c.deref.ensures.value)
    (λ v h. known_marked at.parents.items _ (nodes g at.states at.parents.items at.node at.followed at.invariant.way c.in-Some.next here.0 here.1) v (first v (at.invariant.known v h)))

pub returns-in-Open-clause-start : goal.returns-in-Open-clause-start
returns-in-Open-clause-start c =
    let g = graph_of c.args.graph.now in
    let at = c.loop-next in
    let here = there (edges g at.node) at.followed c.in-Some.next (sym c.next_of.ensures.next ∙ c.in-Some.is) in
    let inside : at.node < length at.states = omega (arith, at.invariant.way.within, at.invariant.way.right.long) in
    let first : KeepsKnown at.states _ = known_set at.states at.node of.Endless inside refl in
    rw (c.mark_endless.ensures, c.deref.ensures.value)
    (known_marked at.parents.items _ (nodes g at.states at.parents.items at.node at.followed at.invariant.way c.in-Some.next here.0 here.1) c.args.start (first c.args.start at.invariant.start))
