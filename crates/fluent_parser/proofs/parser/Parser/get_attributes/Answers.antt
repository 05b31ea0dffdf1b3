use Rattle.std.proofs.Common.{◌≡◌, ◌∙◌, Option, Some, None, [], map, refl, ap, arith, rules}
use Rattle.std.proofs.lemmas.List.{map-append}
use Rattle.fluent_ast.specs.View.{attribute_view}
use Rattle.fluent_parser.specs.Entries.{attributes_by}
use Rattle.fluent_parser.proofs.Entries.{next_attribute_is, next_attribute_fails, attributes_begin, attributes_go_on, attributes_end}
use Rattle.fluent_parser.specs.Depth.{PastSomewhere}
use Rattle.fluent_parser.proofs.Deepening.{deep_map, moved}
use Rattle.fluent_parser.proofs.parser.Parser.get_attributes.Goals as goal

none_of : {A : Type 0} (x : Option A) → ((v : A) → x ≡ Some v → ⊥) → x ≡ None
none_of None f = refl
none_of (Some v) f = absurd (f v refl)

pub loop-attributes-init : goal.loop-attributes-init
loop-attributes-init g c =
    let none : map (attribute_view g.row.S.Denot g.T.Texts.text) c.new-attributes.result.items ≡ [] = search rules in
    record {
      text = refl;
      stack = refl;
      budget = refl;
      onward = omega arith;
      read = attributes_begin c.args.self.now.rest.now _ none;
    }

pub returns-in_err-attribute-clause-gives : goal.returns-in_err-attribute-clause-gives
returns-in_err-attribute-clause-gives g c = search (rules, next_attribute_fails _ _ c.loop-attributes.self.rest.now (attributes_by c.args.self.now.rest.now) c.in_err-attribute.ensures.gives)

pub loop-attributes-smaller : goal.loop-attributes-smaller
loop-attributes-smaller g c = (next_attribute_is c.loop-attributes.self.rest.now _ _ (rw c.in-Some.is at c.in_ok-attribute.ensures.gives)).shorter

pub loop-attributes-preserved : goal.loop-attributes-preserved
loop-attributes-preserved g c =
    let view = attribute_view g.row.S.Denot g.T.Texts.text in
    record {
      text = c.next_attribute.ensures.advances.text ∙ c.loop-attributes.invariant.text;
      stack = c.next_attribute.ensures.advances.stack ∙ c.loop-attributes.invariant.stack;
      budget = c.next_attribute.ensures.advances.budget ∙ c.loop-attributes.invariant.budget;
      onward = omega (arith, c.next_attribute.ensures.advances.onward, c.loop-attributes.invariant.onward);
      read = attributes_go_on c.args.self.now.rest.now c.loop-attributes.self.rest.now _ (map view c.loop-attributes.attributes.items) _ _
          (ap (map view) c.in_ok-push_tight.ensures ∙ map-append view c.loop-attributes.attributes.items _) (rw c.in-Some.is at c.in_ok-attribute.ensures.gives) c.loop-attributes.invariant.read;
    }

pub returns-clause-gives : goal.returns-clause-gives
returns-clause-gives g c =
    let none : c.in_ok-attribute.field-0 ≡ None = none_of c.in_ok-attribute.field-0 c.in_default.not-Some in
    attributes_end c.args.self.now.rest.now c.loop-attributes.self.rest.now _ _ (rw none at c.in_ok-attribute.ensures.gives) c.loop-attributes.invariant.read

pub returns-in_err-attribute-clause-deep : goal.returns-in_err-attribute-clause-deep
returns-in_err-attribute-clause-deep g c =
    search (
      rules,
      deep_map c.in_err-attribute.field-0.0 (PastSomewhere c.loop-attributes.self) (PastSomewhere c.args.self.now) c.in_err-attribute.ensures.deep
          (moved c.args.self.now c.loop-attributes.self c.loop-attributes.invariant.text c.loop-attributes.invariant.stack c.loop-attributes.invariant.budget),
    )
