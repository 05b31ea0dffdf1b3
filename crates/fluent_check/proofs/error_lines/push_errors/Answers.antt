use Rattle.std.proofs.Common.{refl, string_bytes, rules}
use Rattle.fluent_check.specs.ReportView.{errors_view}
use Rattle.fluent_check.proofs.Lines.{sources_next, sources_at_last}
use Rattle.fluent_check.proofs.error_lines.push_errors.Goals as goal

pub loop-index-init : goal.loop-index-init
loop-index-init c = refl

pub loop-index-preserved : goal.loop-index-preserved
loop-index-preserved c =
    sources_next errors_view c.args.sources.now (string_bytes c.args.text.now) c.loop-index.index c.index-sources-index.result
    (string_bytes c.loop-index.text) (string_bytes c.push_errors_of.new.text) c.loop-index-test.true c.loop-index.invariant (search rules)

pub returns : goal.returns
returns c =
    sources_at_last errors_view c.args.sources.now (string_bytes c.args.text.now) c.loop-index.index
    (string_bytes c.loop-index.text) c.loop-index-test.false c.loop-index.invariant
