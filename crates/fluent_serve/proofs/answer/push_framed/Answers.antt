use Rattle.std.proofs.Common.{◌++◌, ap, ◌∙◌, append_assoc}
use Rattle.fluent_serve.specs.AnswerView.{head_of}
use Rattle.fluent_serve.proofs.Outcomes.{on_ok_if, on_ok_map}
use Rattle.fluent_serve.proofs.answer.push_framed.Goals as goal

pub returns-clause-ok : goal.returns-clause-ok
returns-clause-ok c =
    on_ok_map c.extend_from_slice.result
    (λ added. added ∙ (ap (λ s. s ++ c.args.lines.now) c.in_ok-push_head.ensures.ok ∙ append_assoc c.args.out.now.items (head_of c.args.text_len c.args.error_count) c.args.lines.now))
    (on_ok_if c.extend_from_slice.result c.extend_from_slice.new.self.items _ _ c.extend_from_slice.ensures.items)
