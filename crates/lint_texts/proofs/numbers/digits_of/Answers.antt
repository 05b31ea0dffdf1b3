use Rattle.std.proofs.Common.{map, sym, subst, take}
use Rattle.std.proofs.lemmas.List.{take_all}
use Rattle.lint_nodes.specs.HasNames.{HasNames}
use Rattle.lint_findings.specs.Numbers as n
use Rattle.lint_texts.specs.InCode.{number_view}
use Rattle.lint_texts.proofs.Named.{one_named}
use Rattle.lint_texts.proofs.numbers.digits_of.Goals as goal

pub loop-number-preserved : goal.loop-number-preserved
loop-number-preserved c =
    let xs = c.args.numbers.now in
    let i = c.loop-number.number-index in
    subst (HasNames c.add.new.self) (sym (one_named number_view (λ (q : n.Number). q.digits) xs i _ c.loop-number-test.true))
    (c.in_ok-add.ensures (n.digits_of (map number_view (take i xs))) c.loop-number.invariant)

pub returns : goal.returns
returns c =
    let all = take_all c.loop-number.number-index c.args.numbers.now c.loop-number-test.false in
    subst (λ xs. HasNames c.loop-number.names (n.digits_of (map number_view xs))) all c.loop-number.invariant
