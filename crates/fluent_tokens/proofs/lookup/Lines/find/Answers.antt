use Rattle.std.proofs.Common.{◌+◌, ◌∙◌, ap, arith}
use Rattle.std.proofs.lemmas.List.{drop_more}
use Rattle.fluent_tokens.specs.Table.{lines}
use Rattle.fluent_tokens.proofs.Places.{holds, ahead_at, ahead_none}
use Rattle.fluent_tokens.proofs.lookup.Lines.find.Goals as goal
use Rattle.fluent_tokens.proofs.lookup.Lines.find.Goals.{then-loop-self-2-test+else-self-place, else-loop-self-2-test}

pub returns-clause-holds : goal.returns-clause-holds
returns-clause-holds c =
    let l = c.loop-self-2 in
    let rows = l.self.rows.now in
    let i = l.self.near in
    let place = c.args.place in
    holds c.args.self.now.text.now rows i _ place (l.self.are_lines ∙ ap lines l.invariant.text) l.self.is_row (drop_more rows i _ l.self.is_row) c.requires l.invariant.reached
    (elim c.loop-self-2-test.branch [
      | then-loop-self-2-test+else-self-place w ↦ ahead_at rows (i + 1) _ place w.loop-self-2-test.true w.if-self-place.false
      | else-loop-self-2-test w ↦ ahead_none rows (i + 1) place (omega (arith, w.loop-self-2-test.false))
    ])
