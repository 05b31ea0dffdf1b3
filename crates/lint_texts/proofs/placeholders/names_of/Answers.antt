use Rattle.std.proofs.Common.{map, sym, subst, take}
use Rattle.std.proofs.lemmas.List.{take_all}
use Rattle.lint_nodes.specs.HasNames.{HasNames}
use Rattle.lint_findings.specs.Placeholders as p
use Rattle.lint_texts.specs.InCode.{placeholder_view}
use Rattle.lint_texts.proofs.Named.{one_named}
use Rattle.lint_texts.proofs.placeholders.names_of.Goals as goal

pub loop-placeholder-preserved : goal.loop-placeholder-preserved
loop-placeholder-preserved c =
    let xs = c.args.placeholders.now in
    let i = c.loop-placeholder.placeholder-index in
    subst (HasNames c.add.new.self) (sym (one_named placeholder_view (λ (q : p.Placeholder). q.name) xs i _ c.loop-placeholder-test.true))
    (c.in_ok-add.ensures (p.names (map placeholder_view (take i xs))) c.loop-placeholder.invariant)

pub returns : goal.returns
returns c =
    let all = take_all c.loop-placeholder.placeholder-index c.args.placeholders.now c.loop-placeholder-test.false in
    subst (λ xs. HasNames c.loop-placeholder.names (p.names (map placeholder_view xs))) all c.loop-placeholder.invariant
