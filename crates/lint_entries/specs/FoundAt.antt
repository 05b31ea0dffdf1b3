-- The findings of nodes at their places.
use Rattle.std.specs.Prelude.{List, [], map, Option, Some, None}
use Rattle.std.specs.List.{flat_map}
use Rattle.fluent_grammar.specs.Words.{Text}
use Rattle.fluent_grammar.specs.Tree.{Elements}
use Rattle.lint_findings.specs.EntryFindings as e
use Rattle.lint_findings.specs.Finding.{Finding}
use Rattle.lint_findings.specs.Nodes as n
use Rattle.lint_findings.specs.Occurrences as o
use Rattle.lint_nodes.specs.NodeView.{node_view}
use Rattle.lint_nodes.specs.declared.occurrence.Occurrence.{Occurrence}
use Rattle.lint_entries.specs.CatalogView.{ids_in, reference_in}
use Rattle.lint_entries.specs.FirstEndless.{endless_at}
use Rattle.lint_entries.specs.Labels.{label_text}
use Rattle.lint_entries.specs.declared.catalog.Catalog.{Catalog}
use Rattle.lint_entries.specs.declared.finding.EntryPoint.{EntryPoint}
use Rattle.lint_entries.specs.declared.label.Label.{Label}

-- the nodes of occurrences
abbrev pub nodes_of : List Occurrence → List n.Node
nodes_of os = map (λ (x : Occurrence). node_view x.node) os

-- the finding at a place that references never end, and go on at one that is written so, if there is one
abbrev pub endless_found : EntryPoint → Option Text → List Finding
endless_found place first = endless_at place.source.now (label_text place.label) place.at.now first

module _ (catalog : Catalog) where
  -- of a node at a place
  abbrev pub node_found : EntryPoint → n.Node → List Finding
  node_found place node =
      e.node_findings (ids_in catalog) (reference_in catalog) catalog.plurals place.source.now (label_text place.label) place.at.now node

  -- of occurrences in a source
  abbrev pub occurrences_found : Text → Label → List o.Occurrence → List Finding
  occurrences_found source label os =
      flat_map (λ (x : o.Occurrence). e.node_findings (ids_in catalog) (reference_in catalog) catalog.plurals source (label_text label) x.at x.node) os

  -- of a pattern with a name at this place, in the source from its first byte on
  abbrev pub pattern_found : EntryPoint → Text → Elements → List Finding
  pattern_found name pattern_at es =
      e.pattern_findings (ids_in catalog) (reference_in catalog) catalog.plurals name.source.now (label_text name.label)
      (record { attribute = None; name_at = name.at.now; pattern_at = pattern_at }) es

  -- of the value of a message with a name at this place, if it has one
  abbrev pub value_found : EntryPoint → Text → Option Elements → List Finding
  value_found name value_at None = []
  value_found name value_at (Some es) = pattern_found name value_at es
