use Rattle.std.proofs.Common.{length, ◌-◌, ◌≡◌, drop}
use Rattle.fluent_tokens.proofs.Places.{IsReached}
use Rattle.fluent_tokens.proofs.lookup.Lines.find.Given as goal

abbrev pub invariant-loop-self : goal.invariant-loop-self
invariant-loop-self l = record {
  text : l.self.text.now ≡ l.fn.self.text.now;
  rows : l.self.rows.now ≡ l.fn.self.rows.now;
}

abbrev pub decreases-loop-self : goal.decreases-loop-self
decreases-loop-self l = l.self.near

abbrev pub invariant-loop-self-2 : goal.invariant-loop-self-2
invariant-loop-self-2 l = record {
  text : l.self.text.now ≡ l.fn.self.text.now;
  rows : l.self.rows.now ≡ l.fn.self.rows.now;
  reached : IsReached l.place (drop l.self.near l.self.rows.now);
}

abbrev pub decreases-loop-self-2 : goal.decreases-loop-self-2
decreases-loop-self-2 l = length l.self.rows.now - l.self.near
