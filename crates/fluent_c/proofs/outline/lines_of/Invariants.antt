-- The lines of the entries before the index are there.
use Rattle.std.proofs.Common.{◌≡◌, map, take, string_bytes}
use Rattle.fluent_syntax.specs.View.{entry_view}
use Rattle.fluent_c.specs.Counts.{Text, text_of}
use Rattle.fluent_c.specs.Outline.{outline_lines}
use Rattle.fluent_c.proofs.outline.lines_of.Given as goal

abbrev pub invariant-loop-entry : goal.invariant-loop-entry
invariant-loop-entry l = string_bytes l.text ≡ outline_lines (map (entry_view Text text_of) (take l.entry-index l.entry-items))
