use Rattle.std.proofs.Common.{◌≡◌, ◌+◌, ◌-◌, ◌≤◌, true, false, length, drop}
use Rattle.memchr.specs.Find.{Nowhere, Passes}
use Rattle.fluent_tokens.specs.Bytes.{is_line_feed, is_brace}
use Rattle.fluent_tokens.specs.Swept.{Tells}
use Rattle.fluent_tokens.proofs.Swept.{Braced}
use Rattle.fluent_tokens.proofs.sweep.measure_line.Given as goal

abbrev pub invariant-loop-told : goal.invariant-loop-told
invariant-loop-told l = record {
  within : l.seen + l.told.count ≤ length l.text;
  told : Tells l.told (drop l.seen l.text);
  feeds : Nowhere (Passes is_line_feed l.text) 0 l.seen;
  plain : l.is_plain ≡ true → Nowhere (Passes is_brace l.text) 0 l.seen;
  braced : l.is_plain ≡ false → Braced l.text l.seen;
}

-- a block that was told leaves fewer bytes, and where nothing was told, the next block is
abbrev pub decreases-loop-told : goal.decreases-loop-told
decreases-loop-told l = length l.text - l.seen + (64 - l.told.count)
