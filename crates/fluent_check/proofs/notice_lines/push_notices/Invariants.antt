use Rattle.std.proofs.Common.{string_bytes}
use Rattle.fluent_errors.specs.View.{bundle_view}
use Rattle.fluent_check.specs.Report.{notice_line}
use Rattle.fluent_check.proofs.Lines.{LinesSoFar}
use Rattle.fluent_check.proofs.notice_lines.push_notices.Given as goal

abbrev pub invariant-loop-notice : goal.invariant-loop-notice
invariant-loop-notice l = LinesSoFar (λ n. notice_line (bundle_view n)) l.notices (string_bytes l.fn.text) l.notice-index (string_bytes l.text)
