use Rattle.std.proofs.Common.{◌≡◌, ◌≤◌, ◌<◌, ◌-◌, length, drop, get_or}
use Rattle.fluent_grammar.specs.Words as w
use Rattle.fluent_tokens.proofs.blanks.blank_block_len.Given as goal

abbrev pub invariant-loop-end : goal.invariant-loop-end
invariant-loop-end l = record {
  order : l.line ≤ l.end;
  within : l.end ≤ length l.text;
  same : w.blank_lines (drop l.line l.text) (drop l.end l.text) ≡ w.skip_blank_block l.text;
  ascii : 0 < l.line → get_or l.text (l.line - 1) 0 < 128;
}

abbrev pub decreases-loop-end : goal.decreases-loop-end
decreases-loop-end l = length l.text - l.end
