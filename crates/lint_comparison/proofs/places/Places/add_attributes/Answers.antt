use Rattle.std.proofs.Common.{◌∙◌, ◌+◌, [], ◌∷◌, map, drop, refl, sym, ap, subst}
use Rattle.fluent_ast.specs.Borrowed.{attribute_of}
use Rattle.lint_entries.specs.AttributePlaces.{AreAttributesAt, places_of_attributes, read_rest}
use Rattle.lint_entries.proofs.AttributesAdded.{others_there, value_there}
use Rattle.lint_entries.proofs.Pushed.{next, none_left}
use Rattle.lint_findings.specs.Occurrences.{pattern_read}
use Rattle.lint_comparison.specs.HasPlaces.{GetsPatternPlaces}
use Rattle.lint_comparison.proofs.PlacesAdded.{attribute_added, more_places, none_added, place_here}
use Rattle.lint_comparison.proofs.places.Places.add_attributes.Goals as goal

pub loop-attribute-init : goal.loop-attribute-init
loop-attribute-init c = (λ rest there. there, λ last gets. gets)

pub add_pattern-requires : goal.add_pattern-requires
add_pattern-requires c =
    let items = c.args.attributes.now in
    let s = c.loop-attribute.rest.now in
    let rest = c.requires.0 in
    let one_next = next attribute_of items c.loop-attribute.attribute-index c.attribute-item.result c.loop-attribute-test.true c.attribute-item.is in
    let there = subst (λ l. AreAttributesAt l s rest) one_next (c.loop-attribute.invariant.0 rest c.requires.1) in
    (there.0, ap pattern_read (value_there c.after_equals.result.now c.skip.result.now c.skip_spaces-at.result.now s c.after_equals.ensures c.skip.ensures c.skip_spaces-at.ensures) ∙ there.1)

pub loop-attribute-preserved : goal.loop-attribute-preserved
loop-attribute-preserved c =
    let items = c.args.attributes.now in
    let i = c.loop-attribute.attribute-index in
    let item = c.attribute-item.result in
    let a = attribute_of item in
    let tail = map attribute_of (drop (i + 1) items) in
    let s = c.loop-attribute.rest.now in
    let u = c.in_ok-rest.rest.now in
    let old = c.loop-attribute.self in
    let new = c.add_pattern.new.self in
    let one_next = next attribute_of items i item c.loop-attribute-test.true c.attribute-item.is in
    let value = value_there c.after_equals.result.now c.skip.result.now c.skip_spaces-at.result.now s c.after_equals.ensures c.skip.ensures c.skip_spaces-at.ensures in
    let read = sym (ap pattern_read value) ∙ c.in_ok-rest.ensures.rest in
    let here = place_here a.id s in
    let places_are = ap (λ l. places_of_attributes l s) one_next ∙ ap (λ x. here ∷ places_of_attributes tail x) (ap read_rest read) in
    let added = attribute_added old (record { attributes = c.add.new.self; variables = old.variables; alloc = old.alloc }) new a.id c.skip_spaces-at.result.now c.after_equals.result.now s
    c.skip_spaces-at.ensures value refl c.in_ok-add.ensures c.in_ok-rest.ensures.added in (
      λ rest there. others_there a tail s u rest (subst (λ l. AreAttributesAt l s rest) one_next (c.loop-attribute.invariant.0 rest there)) read,
      λ last gets. c.loop-attribute.invariant.1 last
          (subst (λ ps. GetsPatternPlaces old ps last) (sym places_are) (more_places old new last (here ∷ []) (places_of_attributes tail u) added gets)),
    )

pub returns : goal.returns
returns c =
    let here = c.loop-attribute.self in
    let none = none_left attribute_of c.args.attributes.now c.loop-attribute.attribute-index c.loop-attribute-test.false in
    c.loop-attribute.invariant.1 here (subst (λ l. GetsPatternPlaces here (places_of_attributes l c.loop-attribute.rest.now) here) (sym none) (none_added here))
