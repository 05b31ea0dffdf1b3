use Rattle.fluent_serve.proofs.Answers.{head_from_pieces}
use Rattle.fluent_serve.proofs.Outcomes.{on_ok_if, on_ok_map}
use Rattle.fluent_serve.proofs.answer.push_head.Goals as goal

pub returns-clause-ok : goal.returns-clause-ok
returns-clause-ok c =
    on_ok_map c.extend_from_slice-3.result
    (head_from_pieces c.args.out.now.items c.extend_from_slice.new.self.items c.push_number.new.out.items c.extend_from_slice-2.new.self.items c.push_number-2.new.out.items
    c.extend_from_slice-3.new.self.items c.args.text_len c.args.error_count
    c.in_ok-extend_from_slice.ensures.items c.in_ok-push_number.ensures.ok c.in_ok-extend_from_slice-2.ensures.items c.in_ok-push_number-2.ensures.ok)
    (on_ok_if c.extend_from_slice-3.result c.extend_from_slice-3.new.self.items _ _ c.extend_from_slice-3.ensures.items)
