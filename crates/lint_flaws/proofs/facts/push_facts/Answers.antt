use Rattle.std.proofs.Common.{OnOk, sym, subst}
use Rattle.std.proofs.lemmas.Result.{on_ok_weaker}
use Rattle.lint_flaws.specs.FactsBy.{attribute_facts, node_facts, plural_facts}
use Rattle.lint_flaws.specs.Said.{AddsFacts}
use Rattle.lint_nodes.specs.declared.nodes.Node.{Node}
use Rattle.lint_flaws.proofs.FactSteps.{both_added}
use Rattle.lint_flaws.proofs.facts.push_facts.Goals as goal

pub returns-in_ok-push_plural_keys-in-Select : goal.returns-in_ok-push_plural_keys-in-Select
returns-in_ok-push_plural_keys-in-Select c =
    let s = c.in-Select in
    subst (λ node. OnOk c.push_attribute_keys.result (AddsFacts (node_facts c.args.ids.now c.args.plurals node) c.args.found.now c.push_attribute_keys.new.found)) (sym s.is)
    (on_ok_weaker c.push_attribute_keys.result
    (both_added (plural_facts c.args.plurals s.selector.now s.variants.now) (attribute_facts c.args.ids.now s.selector.now s.variants.now) _ _ _ c.in_ok-push_plural_keys-in-Select.ensures)
    c.push_attribute_keys.ensures)
