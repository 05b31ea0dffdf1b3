use Rattle.std.proofs.Common.{◌∙◌, [], ◌∷◌, sym, ap, subst, take}
use Rattle.std.proofs.lemmas.List.{take_all}
use Rattle.fluent_ast.specs.Borrowed.{attributes_of}
use Rattle.lint_findings.specs.Comparison.{union}
use Rattle.lint_nodes.specs.HasNames.{HasNames}
use Rattle.lint_comparison.specs.LackingAttributes.{known_names, names_of}
use Rattle.lint_comparison.proofs.LackedNames.{more_names}
use Rattle.lint_nodes.proofs.Unions.{union-append}
use Rattle.lint_comparison.proofs.attributes.names_of.Goals as goal

pub loop-attribute-preserved : goal.loop-attribute-preserved
loop-attribute-preserved c =
    let xs = c.args.attributes.now in
    let i = c.loop-attribute.attribute-index in
    let item = c.attribute-item.result in
    let before = names_of (attributes_of (take i xs)) in
    subst (HasNames c.add.new.self) (sym (ap (union []) (more_names xs i item c.loop-attribute-test.true c.attribute-item.is) ∙ union-append [] before (item.id.name.now ∷ [])))
    (c.in_ok-add.ensures (union [] before) c.loop-attribute.invariant)

pub returns : goal.returns
returns c =
    let all = take_all c.loop-attribute.attribute-index c.args.attributes.now c.loop-attribute-test.false in
    subst (λ xs. HasNames c.loop-attribute.names (known_names (attributes_of xs))) all c.loop-attribute.invariant
