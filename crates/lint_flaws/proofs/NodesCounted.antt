-- How many nodes pass a test, by what they stand for.
use Rattle.std.proofs.Common.{◌≡◌, ◌∙◌, ℕ, ◌+◌, Bool, cond, List, [], ◌∷◌, map, count_by, refl, sym, ap}
use Rattle.std.proofs.lemmas.List.Sums.{sum_by-cons}
use Rattle.lint_findings.specs.Nodes.{Node}
use Rattle.lint_nodes.specs.NodeView.{node_view}
use Rattle.lint_nodes.specs.declared.nodes.Node.{Node as Held}

abbrev one_if : {X : Type 0} → (X → Bool) → X → ℕ
one_if p x = cond (p x) 1 0

pub nodes_counted : (p : Node → Bool) (xs : List Held) → count_by (λ x. p (node_view x)) xs ≡ count_by p (map node_view xs)
nodes_counted p [] = refl
nodes_counted p (x ∷ xs) =
    sum_by-cons (one_if (λ y. p (node_view y))) x xs ∙ ap (λ n. one_if p (node_view x) + n) (nodes_counted p xs) ∙ sym (sum_by-cons (one_if p) (node_view x) (map node_view xs))
