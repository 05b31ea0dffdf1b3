use Rattle.std.proofs.Common.{sym, subst, take}
use Rattle.std.proofs.lemmas.List.{take_all}
use Rattle.lint_nodes.specs.HasNames.{HasNames}
use Rattle.lint_findings.specs.Markup as m
use Rattle.lint_markup.specs.InCode.{tags_of}
use Rattle.lint_markup.proofs.Listed.{one_element}
use Rattle.lint_markup.proofs.elements.elements_of.Goals as goal

pub loop-tag-preserved : goal.loop-tag-preserved
loop-tag-preserved c =
    let xs = c.args.tags.now in
    let i = c.loop-tag.tag-index in
    subst (HasNames c.add.new.self) (sym (one_element xs i _ c.loop-tag-test.true))
    (c.in_ok-add.ensures (m.elements_of_tags (tags_of (take i xs))) c.loop-tag.invariant)

pub returns : goal.returns
returns c =
    let all = take_all c.loop-tag.tag-index c.args.tags.now c.loop-tag-test.false in
    subst (λ xs. HasNames c.loop-tag.names (m.elements_of_tags (tags_of xs))) all c.loop-tag.invariant
