use Rattle.std.proofs.Common.{refl, string_bytes, rules}
use Rattle.fluent_errors.specs.View.{bundle_view}
use Rattle.fluent_check.specs.Report.{notice_line}
use Rattle.fluent_check.proofs.Lines.{lines_next, lines_at_last, by_views}
use Rattle.fluent_check.proofs.notice_lines.push_notices.Goals as goal

pub loop-notice-init : goal.loop-notice-init
loop-notice-init c = refl

pub loop-notice-preserved : goal.loop-notice-preserved
loop-notice-preserved c =
    lines_next (λ n. notice_line (bundle_view n)) c.args.notices.now (string_bytes c.args.text.now) c.loop-notice.notice-index c.notice-item.result
    (string_bytes c.loop-notice.text) (string_bytes c.push_notice.new.text) c.loop-notice-test.true c.loop-notice.invariant (search rules)

pub returns : goal.returns
returns c =
    by_views notice_line bundle_view c.args.notices.now _ _
    (lines_at_last (λ n. notice_line (bundle_view n)) c.args.notices.now (string_bytes c.args.text.now) c.loop-notice.notice-index
    (string_bytes c.loop-notice.text) c.loop-notice-test.false c.loop-notice.invariant)
