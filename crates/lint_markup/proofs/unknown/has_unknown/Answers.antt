use Rattle.std.proofs.Common.{◌∙◌, not, sym, ap}
use Rattle.fluent_grammar.specs.Words.{is_among}
use Rattle.lint_findings.specs.Tags as t
use Rattle.lint_markup.specs.InCode.{texts_in}
use Rattle.lint_markup.proofs.Listed.{none_passed, one_passes}
use Rattle.lint_markup.proofs.unknown.has_unknown.Goals as goal

pub loop-tag-preserved : goal.loop-tag-preserved
loop-tag-preserved c =
    let known = texts_in c.args.known.now in
    none_passed c.args.tags.now c.loop-tag.tag-index _ c.loop-tag-test.true (λ (tag : t.Tag). not (is_among tag.element known)) (ap not (sym (c.has.ensures.listed known c.requires.known) ∙ c.if-not-has.false))
    ∙ c.loop-tag.invariant

pub returns-then-not-has : goal.returns-then-not-has
returns-then-not-has c =
    let known = texts_in c.args.known.now in
    sym (one_passes c.args.tags.now c.loop-tag.tag-index _ c.loop-tag-test.true (λ (tag : t.Tag). not (is_among tag.element known)) (ap not (sym (c.has.ensures.listed known c.requires.known) ∙ c.if-not-has.true)))
    ∙ c.loop-tag.invariant
