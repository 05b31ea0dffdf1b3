use Rattle.std.proofs.Common.{◌++◌, map, ap, sym, ◌∙◌}
use Rattle.std.proofs.lemmas.List.{take_all}
use Rattle.std.proofs.lemmas.List.Folds.{flat_map-map}
use Rattle.std.specs.List.{flat_map}
use Rattle.fluent_errors.specs.View.{bundle_view}
use Rattle.fluent_run.specs.ReplyView.{error_text}
use Rattle.fluent_run.proofs.Replies.{lines-next}
use Rattle.ftl_command.specs.Shown.{error_line}
use Rattle.ftl_command.proofs.message_errors.error_lines.Goals as goal

pub loop-error-preserved : goal.loop-error-preserved
loop-error-preserved c =
    c.in_ok-push_line.ensures
    ∙ ap (λ s. s ++ error_line (error_text (bundle_view c.error-item.result))) c.loop-error.invariant
    ∙ lines-next (λ e. error_line (error_text (bundle_view e))) c.args.errors.now c.loop-error.error-index _ c.error-item.result c.loop-error-test.true c.error-item.is

pub returns : goal.returns
returns c =
    let errors = c.args.errors.now in
    c.loop-error.invariant
    ∙ ap (flat_map (λ e. error_line (error_text (bundle_view e)))) (take_all c.loop-error.error-index errors c.loop-error-test.false)
    ∙ sym (flat_map-map error_line error_text (map bundle_view errors) ∙ flat_map-map (λ e. error_line (error_text e)) bundle_view errors)
