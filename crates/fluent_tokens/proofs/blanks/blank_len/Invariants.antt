use Rattle.std.proofs.Common.{◌≡◌, ◌≤◌, ◌<◌, ◌-◌, length, drop, get_or}
use Rattle.fluent_grammar.specs.Words as w
use Rattle.fluent_tokens.proofs.blanks.blank_len.Given as goal

abbrev pub invariant-loop-end : goal.invariant-loop-end
invariant-loop-end l = record {
  within : l.end ≤ length l.text;
  same : w.skip_blank (drop l.end l.text) ≡ w.skip_blank l.text;
  ascii : 0 < l.end → get_or l.text (l.end - 1) 0 < 128;
}

abbrev pub decreases-loop-end : goal.decreases-loop-end
decreases-loop-end l = length l.text - l.end
