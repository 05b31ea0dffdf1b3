use Rattle.std.proofs.Common.{◌++◌, length, ap, ap₂, ◌∙◌, string_bytes}
use Rattle.std.specs.List.{flat_map}
use Rattle.fluent_serve.specs.Frames.{ended}
use Rattle.fluent_serve.proofs.Outcomes.{on_ok_map}
use Rattle.fluent_serve.specs.AnswerView.{head_of}
use Rattle.fluent_run.proofs.Replies.{frame-told}
use Rattle.fluent_run.specs.ReplyView.{error_texts}
use Rattle.fluent_run.proofs.reply.push_reply.Goals as goal

pub returns-clause-ok : goal.returns-clause-ok
returns-clause-ok c =
    let lines = c.as_bytes.ensures.value ∙ (c.in_ok-push_lines.ensures ∙ ap (λ s. s ++ flat_map ended (error_texts c.args.errors.now)) c.in_ok-push_str.ensures.bytes) in
    on_ok_map c.push_framed.result
    (λ is. is ∙ ap (λ s. c.args.out.now.items ++ s) (ap₂ (λ n s. head_of n (length c.args.errors.now) ++ s) (ap length c.as_str-len.ensures.value) lines ∙ frame-told (string_bytes c.args.text) c.args.errors.now))
    c.push_framed.ensures.ok
