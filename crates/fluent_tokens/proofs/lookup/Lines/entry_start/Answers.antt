use Rattle.std.proofs.Common.{◌+◌, ◌∙◌, ap, arith, length}
use Rattle.fluent_tokens.proofs.EntryStarts.{at_row, at_end, entry_after}
use Rattle.fluent_tokens.proofs.Stops.{stop_from, stop_value, stop_cuts}
use Rattle.fluent_tokens.proofs.lookup.Lines.entry_start.Goals as goal

pub overflow_sub-result : goal.overflow_sub-result
overflow_sub-result c =
    let l = c.loop-self in
    let text = c.args.self.now.text.now in
    stop_from c.args.place _ _ _ (entry_after text c.args.place _ c.requires (at_row text c.args.place l.self.rows.now (l.self.near + 1) _ l.invariant.passed (omega (arith, c.loop-self-test.true)) c.if-row.true))

pub returns-then-row-clause-value : goal.returns-then-row-clause-value
returns-then-row-clause-value c =
    let l = c.loop-self in
    let text = c.args.self.now.text.now in
    stop_value c.args.place _ _ _ (entry_after text c.args.place _ c.requires (at_row text c.args.place l.self.rows.now (l.self.near + 1) _ l.invariant.passed (omega (arith, c.loop-self-test.true)) c.if-row.true))

pub returns-then-row-clause-cuts : goal.returns-then-row-clause-cuts
returns-then-row-clause-cuts c =
    let l = c.loop-self in
    let text = c.args.self.now.text.now in
    stop_cuts c.args.place _ _ _ (entry_after text c.args.place _ c.requires (at_row text c.args.place l.self.rows.now (l.self.near + 1) _ l.invariant.passed (omega (arith, c.loop-self-test.true)) c.if-row.true))

pub returns-clause-value : goal.returns-clause-value
returns-clause-value c =
    let l = c.loop-self in
    let text = c.args.self.now.text.now in
    stop_value c.args.place _ _ _ (entry_after text c.args.place _ c.requires (ap length l.invariant.text ∙ at_end text c.args.place l.self.rows.now (l.self.near + 1) l.invariant.passed (omega (arith, c.loop-self-test.false))))

pub returns-clause-cuts : goal.returns-clause-cuts
returns-clause-cuts c =
    let l = c.loop-self in
    let text = c.args.self.now.text.now in
    stop_cuts c.args.place _ _ _ (entry_after text c.args.place _ c.requires (ap length l.invariant.text ∙ at_end text c.args.place l.self.rows.now (l.self.near + 1) l.invariant.passed (omega (arith, c.loop-self-test.false))))
