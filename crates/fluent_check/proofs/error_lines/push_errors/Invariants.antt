use Rattle.std.proofs.Common.{string_bytes}
use Rattle.fluent_check.specs.ReportView.{errors_view}
use Rattle.fluent_check.proofs.Lines.{SourcesSoFar}
use Rattle.fluent_check.proofs.error_lines.push_errors.Given as goal

abbrev pub invariant-loop-index : goal.invariant-loop-index
invariant-loop-index l = SourcesSoFar errors_view l.sources (string_bytes l.fn.text) l.index (string_bytes l.text)
