use Rattle.std.proofs.Common.{◌∙◌, sym, map}
use Rattle.lint_markup.specs.InCode.{property_view}
use Rattle.lint_markup.proofs.StyleParts.{all_read, part_read, part_unread}
use Rattle.lint_markup.proofs.styles.properties_of.Goals as goal

pub loop-part-preserved : goal.loop-part-preserved
loop-part-preserved c =
    part_read c.args.parts.now c.loop-part.part-index _ c.loop-part-test.true (map property_view c.loop-part.properties.items) (map property_view c.push_property.new.properties.items)
    c.skip_blanks.result.now c.in_ok-push_property.field-0 c.skip_blanks.ensures c.in_ok-push_property.ensures c.if-not-branch.false
    ∙ c.loop-part.invariant

pub returns-then-not-branch : goal.returns-then-not-branch
returns-then-not-branch c =
    sym (part_unread c.args.parts.now c.loop-part.part-index _ c.loop-part-test.true (map property_view c.loop-part.properties.items) (map property_view c.push_property.new.properties.items)
    c.skip_blanks.result.now c.in_ok-push_property.field-0 c.skip_blanks.ensures c.in_ok-push_property.ensures c.if-not-branch.true)
    ∙ c.loop-part.invariant

pub returns : goal.returns
returns c = sym (all_read c.args.parts.now c.loop-part.part-index (map property_view c.loop-part.properties.items) c.loop-part-test.false) ∙ c.loop-part.invariant
