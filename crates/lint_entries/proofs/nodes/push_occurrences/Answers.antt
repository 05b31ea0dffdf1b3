use Rattle.std.proofs.Common.{◌∙◌, ◌+◌, ap, drop, map}
use Rattle.lint_findings.specs.View.{finding_view}
use Rattle.lint_findings.specs.EntryFindings as e
use Rattle.lint_nodes.specs.NodeView.{node_view}
use Rattle.lint_nodes.specs.OccurrenceView.{occurrence_view}
use Rattle.lint_entries.specs.CatalogView.{ids_in, reference_in}
use Rattle.lint_entries.specs.FoundAt.{occurrences_found}
use Rattle.lint_entries.specs.Labels.{label_text}
use Rattle.lint_entries.proofs.Pushed.{first_added, next}
use Rattle.lint_entries.proofs.nodes.push_occurrences.Goals as goal

pub loop-occurrence-preserved : goal.loop-occurrence-preserved
loop-occurrence-preserved c =
    let catalog = c.args.catalog.now in
    let found = occurrences_found catalog c.args.source.now c.args.label in
    let items = c.args.occurrences.now in
    let i = c.loop-occurrence.occurrence-index in
    let item = c.occurrence-item.result in
    first_added (map finding_view c.loop-occurrence.findings.items)
    (e.node_findings (ids_in catalog) (reference_in catalog) catalog.plurals c.args.source.now (label_text c.args.label) item.at.now (node_view item.node))
    (found (map occurrence_view (drop (i + 1) items)))
    c.in_ok-push_node.ensures (ap found (next occurrence_view items i item c.loop-occurrence-test.true c.occurrence-item.is))
    ∙ c.loop-occurrence.invariant
