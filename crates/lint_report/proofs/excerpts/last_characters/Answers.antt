use Rattle.std.proofs.Common.{◌≡◌, arith, sym, subst, ◌∙◌, not}
use Rattle.fluent_grammar.specs.Words.{Text}
use Rattle.lint_report.proofs.Passing.{EndPassed, end_step, end_boundary, end_done, not_empty, empty_not, cut_by_rest}
use Rattle.lint_report.proofs.excerpts.last_characters.Goals as goal
use Rattle.lint_report.proofs.excerpts.last_characters.Goals.{then-loop-count-test+else-not-is_empty, else-loop-count-test}

pub loop-count-preserved : goal.loop-count-preserved
loop-count-preserved c = record {
  passed =
      end_step c.args.text.now c.as_str.result.now c.loop-count.count c.loop-count.front c.next_back.new.self c.next_back.result c.next_back.ensures.steps
      c.as_str.ensures (not_empty c.as_str.result.now c.is_empty.result c.is_empty.ensures c.if-not-is_empty.true) c.loop-count.invariant.passed;
  few = omega arith;
}

pub range_from-requires : goal.range_from-requires
range_from-requires c = λ some.
    let F : Text → Type 0 = λ u. EndPassed c.args.text.now u c.loop-count.count in
    end_boundary c.args.text.now c.as_str-front.result.now c.loop-count.count (subst F (sym c.as_str-front.ensures) c.loop-count.invariant.passed)
    c.utf8.text c.as_str-front.utf8

pub returns : goal.returns
returns c =
    let F : Text → Type 0 = λ u. EndPassed c.args.text.now u c.loop-count.count in
    end_done c.args.text.now c.as_str-front.result.now c.args.most
    (record { text = c.range_from.result; count = c.loop-count.count; is_cut = not c.is_empty-2.result })
    (subst F (sym c.as_str-front.ensures) c.loop-count.invariant.passed) c.as_str-front.utf8 c.range_from.utf8
    c.range_from.ensures.value c.loop-count.invariant.few
    (λ some. elim c.loop-count-test.branch [
      | then-loop-count-test+else-not-is_empty w ↦ absurd (
          let same : c.as_str-front.result.now ≡ w.as_str.result.now = c.as_str-front.ensures ∙ sym w.as_str.ensures in
          empty_not w.as_str.result.now w.is_empty.result w.is_empty.ensures w.if-not-is_empty.false (rw same at some))
      | else-loop-count-test w ↦ w.loop-count-test.false
    ])
    (cut_by_rest c.as_str-front.result.now c.is_empty-2.result c.is_empty-2.ensures)
