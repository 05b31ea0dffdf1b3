use Rattle.std.proofs.Common.{◌+◌, ◌∙◌, true, false, ap, arith, length}
use Rattle.fluent_tokens.proofs.CommentEnds.{of_not, at_row, at_end, comments_after}
use Rattle.fluent_tokens.proofs.Stops.{stop_from, stop_value, stop_cuts}
use Rattle.fluent_tokens.proofs.lookup.Lines.comments_len.Goals as goal

pub loop-self-preserved : goal.loop-self-preserved
loop-self-preserved c =
    let l = c.loop-self in
    record {
      text = l.invariant.text;
      passed = at_row c.args.self.now.text.now c.args.place l.self.rows.now (l.self.near + 1) _ true l.invariant.passed (omega (arith, c.loop-self-test.true)) (of_not _ false c.if-not-row.false);
    }

pub overflow_sub-result : goal.overflow_sub-result
overflow_sub-result c =
    let l = c.loop-self in
    let text = c.args.self.now.text.now in
    stop_from c.args.place _ _ _ (comments_after text c.args.place _ c.requires (at_row text c.args.place l.self.rows.now (l.self.near + 1) _ false l.invariant.passed (omega (arith, c.loop-self-test.true)) (of_not _ true c.if-not-row.true)))

pub returns-then-not-row-clause-value : goal.returns-then-not-row-clause-value
returns-then-not-row-clause-value c =
    let l = c.loop-self in
    let text = c.args.self.now.text.now in
    stop_value c.args.place _ _ _ (comments_after text c.args.place _ c.requires (at_row text c.args.place l.self.rows.now (l.self.near + 1) _ false l.invariant.passed (omega (arith, c.loop-self-test.true)) (of_not _ true c.if-not-row.true)))

pub returns-then-not-row-clause-cuts : goal.returns-then-not-row-clause-cuts
returns-then-not-row-clause-cuts c =
    let l = c.loop-self in
    let text = c.args.self.now.text.now in
    stop_cuts c.args.place _ _ _ (comments_after text c.args.place _ c.requires (at_row text c.args.place l.self.rows.now (l.self.near + 1) _ false l.invariant.passed (omega (arith, c.loop-self-test.true)) (of_not _ true c.if-not-row.true)))

pub returns-clause-value : goal.returns-clause-value
returns-clause-value c =
    let l = c.loop-self in
    let text = c.args.self.now.text.now in
    stop_value c.args.place _ _ _ (comments_after text c.args.place _ c.requires (ap length l.invariant.text ∙ at_end text c.args.place l.self.rows.now (l.self.near + 1) l.invariant.passed (omega (arith, c.loop-self-test.false))))

pub returns-clause-cuts : goal.returns-clause-cuts
returns-clause-cuts c =
    let l = c.loop-self in
    let text = c.args.self.now.text.now in
    stop_cuts c.args.place _ _ _ (comments_after text c.args.place _ c.requires (ap length l.invariant.text ∙ at_end text c.args.place l.self.rows.now (l.self.near + 1) l.invariant.passed (omega (arith, c.loop-self-test.false))))
