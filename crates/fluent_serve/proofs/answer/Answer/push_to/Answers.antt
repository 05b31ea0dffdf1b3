use Rattle.std.proofs.Common.{Result, Ok, Err, OnOk, rules}
use Rattle.fluent_serve.proofs.Answers.{text_pushed}
use Rattle.fluent_serve.proofs.answer.Answer.push_to.Goals as goal

on_ok_map : {T E P Q : Type 0} (r : Result T E) → (P → Q) → OnOk r P → OnOk r Q
on_ok_map (Ok x) f p = f p
on_ok_map (Err e) f p = search rules

pub returns-in_ok-extend_from_slice-in-Text-2-clause-ok : goal.returns-in_ok-extend_from_slice-in-Text-2-clause-ok
returns-in_ok-extend_from_slice-in-Text-2-clause-ok g c =
    rw c.in-Text.is (on_ok_map c.push_errors.result
    (text_pushed g.E.Display.output c.in-Text.errors.now c.args.out.now.items c.in-Text.text.now
    c.push_head.new.out.items c.extend_from_slice-in-Text.new.self.items c.extend_from_slice-in-Text-2.new.self.items c.push_errors.new.out.items
    c.in_ok-push_head-in-Text.ensures.ok (rw c.as_bytes.ensures.value at c.in_ok-extend_from_slice-in-Text.ensures.items) c.in_ok-extend_from_slice-in-Text-2.ensures.items)
    c.push_errors.ensures.ok)
