use Rattle.std.proofs.Common.{◌-◌, ap, arith, sym, subst, length, ◌∙◌, not}
use Rattle.fluent_grammar.specs.Words.{Text}
use Rattle.lint_report.proofs.Passing.{FrontPassed, front_step, front_boundary, front_done, front_range}
use Rattle.lint_report.proofs.excerpts.first_characters.Goals as goal
use Rattle.lint_report.proofs.excerpts.first_characters.Goals.{then-loop-count-test+else-not-is_at_line_end, else-loop-count-test}

pub loop-count-preserved : goal.loop-count-preserved
loop-count-preserved c = record {
  passed =
      front_step c.args.text.now c.as_str.result.now c.loop-count.count c.loop-count.rest c.next.new.self c.next.result c.next.ensures.steps
      c.as_str.ensures c.as_str.utf8 (let a = c.if-not-is_at_line_end.true in let b = c.is_at_line_end.ensures in cc) c.loop-count.invariant.passed;
  few = omega arith;
}

pub range-requires-clause-end_boundary : goal.range-requires-clause-end_boundary
range-requires-clause-end_boundary c =
    let F : Text → Type 0 = λ u. FrontPassed c.args.text.now u c.loop-count.count in
    front_boundary c.args.text.now c.as_str-rest.result.now c.loop-count.count (subst F (sym c.as_str-rest.ensures) c.loop-count.invariant.passed)
    c.as_str-rest.utf8

pub returns : goal.returns
returns c =
    let F : Text → Type 0 = λ u. FrontPassed c.args.text.now u c.loop-count.count in
    front_done c.args.text.now c.as_str-rest.result.now c.args.most
    (record { text = c.range.result; count = c.loop-count.count; is_cut = not c.is_at_line_end-2.result })
    (subst F (sym c.as_str-rest.ensures) c.loop-count.invariant.passed) c.as_str-rest.utf8 c.range.utf8
    (c.range.ensures.value ∙ front_range c.args.text.now (length c.args.text.now - length c.as_str-rest.result.now)) c.loop-count.invariant.few
    (λ inside. elim c.loop-count-test.branch [
      | then-loop-count-test+else-not-is_at_line_end w ↦ absurd (
          let a = w.if-not-is_at_line_end.false in let b = w.is_at_line_end.ensures in let d = w.as_str.ensures in let e = c.as_str-rest.ensures in cc)
      | else-loop-count-test w ↦ w.loop-count-test.false
    ])
    (ap not c.is_at_line_end-2.ensures)
