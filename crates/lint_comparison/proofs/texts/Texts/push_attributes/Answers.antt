use Rattle.std.proofs.Common.{◌∙◌, ◌+◌, ◌++◌, drop, map, refl, sym, ap, subst, append-nil}
use Rattle.fluent_ast.specs.Borrowed.{attribute_of}
use Rattle.lint_findings.specs.View.{finding_view}
use Rattle.lint_findings.specs.Occurrences.{pattern_read}
use Rattle.lint_comparison.specs.TextsView.{attribute_found, attributes_found}
use Rattle.lint_comparison.proofs.TextsFound.{next_attribute}
use Rattle.lint_entries.specs.AttributePlaces.{AreAttributesAt}
use Rattle.lint_entries.proofs.AttributesAdded.{others_there, value_there}
use Rattle.lint_entries.proofs.Pushed.{first_added, next, none_left}
use Rattle.lint_comparison.proofs.texts.Texts.push_attributes.Goals as goal

pub loop-attribute-init : goal.loop-attribute-init
loop-attribute-init c = (λ rest there. there, refl)

pub push_attribute-requires : goal.push_attribute-requires
push_attribute-requires c =
    let items = c.args.attributes.now in
    let s = c.loop-attribute.rest.now in
    let rest = c.requires.0 in
    let one_next = next attribute_of items c.loop-attribute.attribute-index c.attribute-item.result c.loop-attribute-test.true c.attribute-item.is in
    let there = subst (λ l. AreAttributesAt l s rest) one_next (c.loop-attribute.invariant.0 rest c.requires.1) in
    (there.0, ap pattern_read (value_there c.after_equals-at.result.now c.skip.result.now c.skip_spaces.result.now s c.after_equals-at.ensures c.skip.ensures c.skip_spaces.ensures) ∙ there.1)

pub loop-attribute-preserved : goal.loop-attribute-preserved
loop-attribute-preserved c =
    let texts = c.args.self.now in
    let items = c.args.attributes.now in
    let i = c.loop-attribute.attribute-index in
    let item = c.attribute-item.result in
    let tail = map attribute_of (drop (i + 1) items) in
    let s = c.loop-attribute.rest.now in
    let u = c.in_ok-rest.rest.now in
    let v = c.after_equals-at.result.now in
    let one_next = next attribute_of items i item c.loop-attribute-test.true c.attribute-item.is in
    let value = value_there v c.skip.result.now c.skip_spaces.result.now s c.after_equals-at.ensures c.skip.ensures c.skip_spaces.ensures in
    let read = sym (ap pattern_read value) ∙ c.in_ok-rest.ensures.rest in (
      λ rest there. others_there (attribute_of item) tail s u rest (subst (λ l. AreAttributesAt l s rest) one_next (c.loop-attribute.invariant.0 rest there)) read,
      first_added (map finding_view c.loop-attribute.findings.items) (attribute_found texts item v) (attributes_found texts tail u)
          c.in_ok-rest.ensures.added (ap (λ l. attributes_found texts l s) one_next ∙ sym (next_attribute texts item tail s u v value c.in_ok-rest.ensures.rest))
          ∙ c.loop-attribute.invariant.1,
    )

pub returns : goal.returns
returns c =
    let now = map finding_view c.loop-attribute.findings.items in
    let none = none_left attribute_of c.args.attributes.now c.loop-attribute.attribute-index c.loop-attribute-test.false in
    sym (append-nil now) ∙ ap (λ l. now ++ attributes_found c.args.self.now l c.loop-attribute.rest.now) (sym none) ∙ c.loop-attribute.invariant.1
