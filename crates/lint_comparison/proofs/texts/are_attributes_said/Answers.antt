use Rattle.std.proofs.Common.{◌≡◌, ◌∙◌, ◌==◌, false, true, length, refl, sym, rules}
use Rattle.lint_texts.specs.OfMessages.{on_attribute_in}
use Rattle.lint_comparison.specs.TextsView.{is_said}
use Rattle.lint_comparison.proofs.TextsFound.{empty_is, is_said_if, said_last, said_next}
use Rattle.lint_comparison.proofs.texts.are_attributes_said.Goals as goal

pub loop-attribute-init : goal.loop-attribute-init
loop-attribute-init c = refl

pub returns-then-not-is_empty : goal.returns-then-not-is_empty
returns-then-not-is_empty c =
    let m = c.args.message.now in
    let o = c.args.other.now in
    let item = c.attribute-item.result in
    let here = on_attribute_in m o item in
    let empty : false ≡ (length c.in_ok-doubts.doubts.items == 0) = search rules in
    let said : is_said here ≡ true = is_said_if false (is_said here) (empty ∙ empty_is c.in_ok-doubts.doubts.items here c.in_ok-doubts.ensures) in
    sym (said_next m o c.args.attributes.now c.loop-attribute.attribute-index item c.loop-attribute-test.true c.attribute-item.is true said) ∙ c.loop-attribute.invariant

pub loop-attribute-preserved : goal.loop-attribute-preserved
loop-attribute-preserved c =
    let m = c.args.message.now in
    let o = c.args.other.now in
    let item = c.attribute-item.result in
    let here = on_attribute_in m o item in
    let empty : true ≡ (length c.in_ok-doubts.doubts.items == 0) = search rules in
    let nothing : is_said here ≡ false = is_said_if true (is_said here) (empty ∙ empty_is c.in_ok-doubts.doubts.items here c.in_ok-doubts.ensures) in
    sym (said_next m o c.args.attributes.now c.loop-attribute.attribute-index item c.loop-attribute-test.true c.attribute-item.is false nothing) ∙ c.loop-attribute.invariant

pub returns : goal.returns
returns c = sym (said_last c.args.message.now c.args.other.now c.args.attributes.now c.loop-attribute.attribute-index c.loop-attribute-test.false) ∙ c.loop-attribute.invariant
