use Rattle.std.proofs.Common.{◌∙◌, sym}
use Rattle.lint_markup.proofs.Listed.{first_here, first_later}
use Rattle.lint_markup.proofs.unbalanced.first_of.Goals as goal

pub loop-tag-preserved : goal.loop-tag-preserved
loop-tag-preserved c = first_later c.args.tags.now c.loop-tag.tag-index _ c.loop-tag-test.true c.args.element.now (sym c.eq.ensures ∙ c.if-eq.false) ∙ c.loop-tag.invariant

pub returns-then-eq : goal.returns-then-eq
returns-then-eq c = sym (first_here c.args.tags.now c.loop-tag.tag-index _ c.loop-tag-test.true c.args.element.now (sym c.eq.ensures ∙ c.if-eq.true)) ∙ c.loop-tag.invariant
