use Rattle.std.proofs.Common.{◌∙◌, sym}
use Rattle.lint_findings.specs.Markup.{is_named}
use Rattle.lint_markup.proofs.Listed.{none_passed, one_passes}
use Rattle.lint_markup.proofs.missing.is_ever_named.Goals as goal

pub loop-tag-preserved : goal.loop-tag-preserved
loop-tag-preserved c =
    none_passed c.args.tags.now c.loop-tag.tag-index _ c.loop-tag-test.true (is_named c.args.element.now) (sym c.is_named.ensures ∙ c.if-is_named.false) ∙ c.loop-tag.invariant

pub returns-then-is_named : goal.returns-then-is_named
returns-then-is_named c =
    sym (one_passes c.args.tags.now c.loop-tag.tag-index _ c.loop-tag-test.true (is_named c.args.element.now) (sym c.is_named.ensures ∙ c.if-is_named.true)) ∙ c.loop-tag.invariant
