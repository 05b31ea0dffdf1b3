-- The entries before the index are counted.
use Rattle.std.proofs.Common.{◌≡◌, ◌≤◌, map, take}
use Rattle.fluent_syntax.specs.View.{entry_view}
use Rattle.fluent_c.specs.Counts.{HasEntries, Text, text_of}
use Rattle.fluent_c.proofs.counts.FluentCounts.of.Given as goal

abbrev pub invariant-loop-entry : goal.invariant-loop-entry
invariant-loop-entry l = record {
  counted : HasEntries l.counts (map (entry_view Text text_of) (take l.entry-index l.entry-items));
  errors : l.counts.errors ≡ l.fn.errors;
  messages : l.counts.messages ≤ l.entry-index;
  terms : l.counts.terms ≤ l.entry-index;
  comments : l.counts.comments ≤ l.entry-index;
  junk : l.counts.junk ≤ l.entry-index;
}
