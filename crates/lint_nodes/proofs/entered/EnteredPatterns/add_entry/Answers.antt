use Rattle.std.proofs.Common.{◌≡◌, ◌∙◌, ap, sym, take, true}
use Rattle.std.proofs.lemmas.List.{take_all}
use Rattle.fluent_ast.specs.Borrowed.{attributes_of, attribute_of, elements_found, elements_of}
use Rattle.lint_findings.specs.Endless.{is_pattern_among}
use Rattle.lint_nodes.specs.Holding.{patterns_of, with_entry}
use Rattle.lint_nodes.specs.IndicesView.{index_of}
use Rattle.lint_nodes.proofs.Held.{has_pattern}
use Rattle.lint_nodes.proofs.Owned.{all_there, attribute_known, begin_none, begin_value, first_listed, next, not_new, value_known, value_there}
use Rattle.lint_nodes.proofs.entered.EnteredPatterns.add_entry.Goals as goal
use Rattle.lint_nodes.proofs.entered.EnteredPatterns.add_entry.Goals.{in-Some+in_ok-add_pattern-in-Some, in-None}

pub returns-then-is_listed : goal.returns-then-is_listed
returns-then-is_listed c =
    let old = c.args.self.now in
    let s = c.args.is_term in
    let j = c.args.id.now in
    let ps = patterns_of old.patterns.items in
    let v = elements_found c.args.value in
    let as' = attributes_of c.args.attributes.now in
    elim c.match-value.branch [
      | in-Some+in_ok-add_pattern-in-Some w ↦ rw w.self-is (λ others named holds whole among.
          let new = w.add_pattern.new.self in
          let es = elements_of w.in-Some.value.now in
          let value = ap elements_found w.in-Some.is in
          let listed = w.in_ok-add_pattern-in-Some.ensures.listed (not_new _ (sym w.is_listed-is ∙ c.if-is_listed.true)) in
          let there = has_pattern ps (index_of old.indices s j listed.0) (named s j listed.0) (holds.at s j listed.0) listed.1 in
          value_there s j v as' named whole listed.0 there others new.indices (patterns_of new.patterns.items) es value
          (w.in_ok-add_pattern-in-Some.ensures.pattern others named holds (value_known (λ x. is_pattern_among x others ≡ true) v es _ value among)))
      | in-None w ↦ rw w.self-is (λ others named holds whole among.
          let listed = first_listed old s j as' (sym w.has_first-is_listed.ensures ∙ sym w.is_listed-is ∙ c.if-is_listed.true) in
          let there = has_pattern ps (index_of old.indices s j listed.0) (named s j listed.0) (holds.at s j listed.0) listed.1 in
          all_there s j v as' named whole listed.0 there others old.indices ps holds)
    ]

pub loop-attribute-init : goal.loop-attribute-init
loop-attribute-init c =
    let old = c.args.self.now in
    let v = elements_found c.args.value in
    elim c.match-value.branch [
      | in-Some+in_ok-add_pattern-in-Some w ↦ rw w.self-is (λ others named holds among.
          let new = w.add_pattern.new.self in
          let es = elements_of w.in-Some.value.now in
          let value = ap elements_found w.in-Some.is in
          begin_value others new.indices (patterns_of new.patterns.items) named c.args.is_term c.args.id.now v es value
          (w.in_ok-add_pattern-in-Some.ensures.pattern others named holds (value_known (λ x. is_pattern_among x others ≡ true) v es _ value among)))
      | in-None w ↦ rw w.self-is (λ others named holds among.
          begin_none others old.indices (patterns_of old.patterns.items) named c.args.is_term c.args.id.now v (ap elements_found w.in-None.is) holds)
    ]

pub loop-attribute-preserved : goal.loop-attribute-preserved
loop-attribute-preserved c = λ others named holds among.
    let before = c.loop-attribute.invariant others named holds among in
    let item = c.attribute-item.result in
    let xs = c.args.attributes.now in
    let i = c.loop-attribute.attribute-index in
    let es_known : is_pattern_among (attribute_of item).value others ≡ true =
    attribute_known (λ x. is_pattern_among x others ≡ true) (elements_found c.args.value) xs i item c.loop-attribute-test.true c.attribute-item.is among in
    next others c.add_pattern-in-loop-attribute.new.self.indices (patterns_of c.add_pattern-in-loop-attribute.new.self.patterns.items) named c.args.is_term c.args.id.now (elements_found c.args.value) xs i item c.loop-attribute-test.true c.attribute-item.is
    (c.in_ok-add_pattern.ensures.pattern others (with_entry c.args.is_term c.args.id.now (elements_found c.args.value) (attributes_of (take i xs)) named) before es_known)

pub returns : goal.returns
returns c = λ others named holds whole among.
    let all : take c.loop-attribute.attribute-index c.args.attributes.now ≡ c.args.attributes.now = take_all c.loop-attribute.attribute-index c.args.attributes.now c.loop-attribute-test.false in
    rw all at (c.loop-attribute.invariant others named holds among)
