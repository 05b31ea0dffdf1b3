use Rattle.std.proofs.Common.{◌≡◌, ◌-◌, ◌<◌}
use Rattle.lint_findings.specs.Position.{position_of}
use Rattle.lint_findings.proofs.places.SourcePosition.line_above.Given as goal

abbrev pub invariant-loop-start : goal.invariant-loop-start
invariant-loop-start l = record {
  earlier : l.start < l.self.line_start;
  same_line : (position_of l.source l.start).line ≡ (position_of l.source (l.self.line_start - 1)).line;
}

abbrev pub decreases-loop-start : goal.decreases-loop-start
decreases-loop-start l = l.start
