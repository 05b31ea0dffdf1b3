use Rattle.std.proofs.Common.{refl, string_bytes, rules}
use Rattle.fluent_parsed.specs.ErrorView.{error_view}
use Rattle.fluent_check.specs.Report.{error_line}
use Rattle.fluent_check.proofs.Lines.{lines_next, lines_at_last, by_views}
use Rattle.fluent_check.proofs.error_lines.push_errors_of.Goals as goal

pub loop-error-init : goal.loop-error-init
loop-error-init c = refl

pub loop-error-preserved : goal.loop-error-preserved
loop-error-preserved c =
    lines_next (λ e. error_line c.args.number (error_view e)) c.args.errors.now (string_bytes c.args.text.now) c.loop-error.error-index c.error-item.result
    (string_bytes c.loop-error.text) (string_bytes c.push_error.new.text) c.loop-error-test.true c.loop-error.invariant (search rules)

pub returns : goal.returns
returns c =
    by_views (error_line c.args.number) error_view c.args.errors.now _ _
    (lines_at_last (λ e. error_line c.args.number (error_view e)) c.args.errors.now (string_bytes c.args.text.now) c.loop-error.error-index
    (string_bytes c.loop-error.text) c.loop-error-test.false c.loop-error.invariant)
