use Rattle.std.proofs.Common.{◌∙◌, ◌+◌, [], ◌∷◌, ◌++◌, map, drop, refl, sym, ap, subst, append-nil}
use Rattle.fluent_ast.specs.Borrowed.{attribute_of}
use Rattle.lint_findings.specs.Occurrences.{pattern_read}
use Rattle.lint_findings.specs.View.{finding_view}
use Rattle.lint_entries.specs.AttributePlaces.{AreAttributesAt}
use Rattle.lint_entries.specs.AttributesFound.{attributes_found}
use Rattle.lint_entries.proofs.AttributesAdded.{others_there, one_added, value_there}
use Rattle.lint_entries.proofs.Pushed.{next, none_left}
use Rattle.lint_entries.proofs.entry.push_attributes.Goals as goal

pub loop-attribute-init : goal.loop-attribute-init
loop-attribute-init c = (λ rest there. there, ([], c.new-names.ensures, refl))

pub push_pattern-requires : goal.push_pattern-requires
push_pattern-requires c =
    let items = c.args.attributes.now in
    let s = c.loop-attribute.rest.now in
    let rest = c.requires.0 in
    let one_next = next attribute_of items c.loop-attribute.attribute-index c.attribute-item.result c.loop-attribute-test.true c.attribute-item.is in
    let there = subst (λ l. AreAttributesAt l s rest) one_next (c.loop-attribute.invariant.0 rest c.requires.1) in
    (there.0, ap pattern_read (value_there c.after_equals-value.result.now c.skip.result.now c.skip_spaces-at.result.now s c.after_equals-value.ensures c.skip.ensures c.skip_spaces-at.ensures) ∙ there.1)

pub loop-attribute-preserved : goal.loop-attribute-preserved
loop-attribute-preserved c =
    let catalog = c.args.catalog.now in
    let entry = c.args.entry.now in
    let items = c.args.attributes.now in
    let i = c.loop-attribute.attribute-index in
    let item = c.attribute-item.result in
    let a = attribute_of item in
    let tail = map attribute_of (drop (i + 1) items) in
    let s = c.loop-attribute.rest.now in
    let u = c.in_ok-rest.rest.now in
    let old = map finding_view c.loop-attribute.findings.items in
    let before = c.loop-attribute.invariant.1.0 in
    let one_next = next attribute_of items i item c.loop-attribute-test.true c.attribute-item.is in
    let value = value_there c.after_equals-value.result.now c.skip.result.now c.skip_spaces-at.result.now s c.after_equals-value.ensures c.skip.ensures c.skip_spaces-at.ensures in
    let read = sym (ap pattern_read value) ∙ c.in_ok-rest.ensures.rest in (
      λ rest there. others_there a tail s u rest (subst (λ l. AreAttributesAt l s rest) one_next (c.loop-attribute.invariant.0 rest there)) read,
      (
        item.id.name.now ∷ before,
        c.in_ok-push_if_taken.ensures.names before c.loop-attribute.invariant.1.1,
        one_added catalog entry a tail before s u c.after_equals-value.result.now item.id.name c.skip_spaces-at.result c.attribute_place-place.result old
            (map finding_view c.push_if_taken.new.findings.items) (map finding_view c.push_pattern.new.findings.items)
            refl c.skip_spaces-at.ensures c.attribute_place-place.ensures value read (c.in_ok-push_if_taken.ensures.added before c.loop-attribute.invariant.1.1) c.in_ok-rest.ensures.added
            ∙ ap (λ l. old ++ attributes_found catalog entry before l s) (sym one_next) ∙ c.loop-attribute.invariant.1.2,
      ),
    )

pub returns : goal.returns
returns c =
    let now = map finding_view c.loop-attribute.findings.items in
    let before = c.loop-attribute.invariant.1.0 in
    let none = none_left attribute_of c.args.attributes.now c.loop-attribute.attribute-index c.loop-attribute-test.false in
    sym (append-nil now) ∙ ap (λ l. now ++ attributes_found c.args.catalog.now c.args.entry.now before l c.loop-attribute.rest.now) (sym none) ∙ c.loop-attribute.invariant.1.2
