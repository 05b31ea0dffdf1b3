use Rattle.std.proofs.Common.{◌≡◌, ◌++◌, map, drop}
use Rattle.fluent_ast.specs.View.{entry_view}
use Rattle.fluent_symbols.specs.NodeView.{node_view}
use Rattle.fluent_symbols.specs.EntryNodes.{in_entries}
use Rattle.fluent_symbols.proofs.entry_nodes.source_nodes.Given as goal

abbrev pub invariant-loop-entry : goal.invariant-loop-entry
invariant-loop-entry l =
    let view = entry_view _ (λ s. s.now) in
    map node_view l.found.items ++ in_entries (map view (drop l.entry-index l.entry-items)) l.rest
    ≡ in_entries (map view l.entry-items) l.initial.rest
