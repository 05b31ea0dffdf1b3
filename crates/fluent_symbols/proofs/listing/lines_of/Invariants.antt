use Rattle.std.proofs.Common.{◌≡◌, ◌++◌, map, drop}
use Rattle.std.specs.Prelude.{string_bytes}
use Rattle.fluent_symbols.specs.NodeLines.{lines_of}
use Rattle.fluent_symbols.specs.NodeView.{node_view}
use Rattle.fluent_symbols.proofs.listing.lines_of.Given as goal

abbrev pub invariant-loop-node : goal.invariant-loop-node
invariant-loop-node l =
    string_bytes l.lines ++ lines_of l.len (map node_view (drop l.node-index l.found)) ≡ lines_of l.len (map node_view l.found)
