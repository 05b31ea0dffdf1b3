-- The nodes of occurrences as code has them.
use Rattle.std.proofs.Common.{◌≡◌, List, [], ◌∷◌, map, refl, ap}
use Rattle.lint_findings.specs.PlaceLaws.{nodes}
use Rattle.lint_nodes.specs.NodeView.{node_view}
use Rattle.lint_nodes.specs.declared.occurrence.Occurrence.{Occurrence}
use Rattle.lint_nodes.specs.OccurrenceView.{occurrence_view}
use Rattle.lint_entries.specs.FoundAt.{nodes_of}

pub nodes_are : (xs : List Occurrence) → nodes_of xs ≡ nodes (map occurrence_view xs)
nodes_are [] = refl
nodes_are (x ∷ xs) = ap (λ ns. node_view x.node ∷ ns) (nodes_are xs)
