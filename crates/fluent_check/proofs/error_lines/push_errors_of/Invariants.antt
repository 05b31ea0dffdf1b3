use Rattle.std.proofs.Common.{string_bytes}
use Rattle.fluent_parsed.specs.ErrorView.{error_view}
use Rattle.fluent_check.specs.Report.{error_line}
use Rattle.fluent_check.proofs.Lines.{LinesSoFar}
use Rattle.fluent_check.proofs.error_lines.push_errors_of.Given as goal

abbrev pub invariant-loop-error : goal.invariant-loop-error
invariant-loop-error l =
    LinesSoFar (λ e. error_line l.number (error_view e)) l.errors (string_bytes l.fn.text) l.error-index (string_bytes l.text)
