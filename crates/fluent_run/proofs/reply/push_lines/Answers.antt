use Rattle.std.proofs.Common.{◌++◌, map, ap, sym, ◌∙◌, append_assoc, append-nil, string_bytes}
use Rattle.std.proofs.lemmas.List.{take_all}
use Rattle.std.proofs.lemmas.List.Folds.{flat_map-map}
use Rattle.std.specs.List.{flat_map}
use Rattle.fluent_errors.specs.View.{bundle_view}
use Rattle.fluent_serve.specs.Frames.{ended}
use Rattle.fluent_run.specs.ReplyView.{error_text}
use Rattle.fluent_run.proofs.Replies.{lines-next}
use Rattle.fluent_run.proofs.reply.push_lines.Goals as goal

pub loop-error-init : goal.loop-error-init
loop-error-init c = sym (append-nil (string_bytes c.args.text.now))

pub loop-error-preserved : goal.loop-error-preserved
loop-error-preserved c =
    c.in_ok-push_line.ensures
    ∙ ap (λ s. s ++ ended (error_text (bundle_view c.error-item.result))) c.loop-error.invariant
    ∙ append_assoc (string_bytes c.args.text.now) _ _
    ∙ ap (λ s. string_bytes c.args.text.now ++ s) (lines-next (λ e. ended (error_text (bundle_view e))) c.args.errors.now c.loop-error.error-index _ c.error-item.result c.loop-error-test.true c.error-item.is)

pub returns : goal.returns
returns c =
    let errors = c.args.errors.now in
    c.loop-error.invariant
    ∙ ap (λ s. string_bytes c.args.text.now ++ s)
    (ap (flat_map (λ e. ended (error_text (bundle_view e)))) (take_all c.loop-error.error-index errors c.loop-error-test.false)
    ∙ sym (flat_map-map ended error_text (map bundle_view errors) ∙ flat_map-map (λ e. ended (error_text e)) bundle_view errors))
