use Rattle.std.proofs.Common.{◌≡◌, ◌++◌, map, drop}
use Rattle.fluent_symbols.specs.Lines.{lines_of}
use Rattle.fluent_symbols.specs.OccurrenceView.{occurrence_view}
use Rattle.fluent_symbols.proofs.lines.lines_of.Given as goal

abbrev pub invariant-loop-occurrence : goal.invariant-loop-occurrence
invariant-loop-occurrence l =
    l.lines.items ++ lines_of l.len (map occurrence_view (drop l.occurrence-index l.found)) ≡ lines_of l.len (map occurrence_view l.found)
