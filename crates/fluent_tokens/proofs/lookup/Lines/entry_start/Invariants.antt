use Rattle.std.proofs.Common.{◌≡◌, ◌+◌, ◌-◌, length, drop}
use Rattle.fluent_tokens.proofs.EntryStarts.{PassedNone}
use Rattle.fluent_tokens.proofs.lookup.Lines.entry_start.Given as goal

abbrev pub invariant-loop-self : goal.invariant-loop-self
invariant-loop-self l = record {
  text : l.self.text.now ≡ l.fn.self.text.now;
  passed : PassedNone l.fn.self.text.now l.place (drop (l.self.near + 1) l.self.rows.now);
}

abbrev pub decreases-loop-self : goal.decreases-loop-self
decreases-loop-self l = length l.self.rows.now - l.self.near
