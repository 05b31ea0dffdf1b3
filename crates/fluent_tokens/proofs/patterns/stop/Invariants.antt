use Rattle.std.proofs.Common.{◌-◌, ◌≤◌, length}
use Rattle.memchr.specs.Find.{Nowhere, Passes}
use Rattle.fluent_tokens.specs.Bytes.{is_stop}
use Rattle.fluent_tokens.proofs.patterns.stop.Given as goal

abbrev pub invariant-loop-end : goal.invariant-loop-end
invariant-loop-end l = record {
  within : l.end ≤ length l.text;
  before : Nowhere (Passes is_stop l.text) 0 l.end;
}

abbrev pub decreases-loop-end : goal.decreases-loop-end
decreases-loop-end l = length l.text - l.end
