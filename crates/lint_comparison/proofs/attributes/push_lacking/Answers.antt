use Rattle.std.proofs.Common.{◌∙◌, ◌++◌, ap, map, sym, append-nil}
use Rattle.std.proofs.lemmas.List.{take_all}
use Rattle.fluent_ast.specs.Borrowed.{attributes_of}
use Rattle.lint_comparison.specs.Lacks.{lacking}
use Rattle.lint_comparison.specs.LackingAttributes.{names_of}
use Rattle.lint_comparison.proofs.LackedNames.{next_attribute}
use Rattle.lint_findings.specs.DifferenceView.{difference_view}
use Rattle.lint_comparison.proofs.attributes.push_lacking.Goals as goal

pub loop-attribute-init : goal.loop-attribute-init
loop-attribute-init c = λ ys has. sym (append-nil (map difference_view c.args.found.now.items))

pub loop-attribute-preserved : goal.loop-attribute-preserved
loop-attribute-preserved c = λ ys has.
    next_attribute c.args.lack ys (map difference_view c.args.found.now.items) c.args.attributes.now c.loop-attribute.attribute-index c.attribute-item.result c.loop-attribute-test.true c.attribute-item.is
    (c.loop-attribute.invariant ys has) (c.in_ok-push_if_new.ensures ys has)

pub returns : goal.returns
returns c = λ ys has.
    let all = take_all c.loop-attribute.attribute-index c.args.attributes.now c.loop-attribute-test.false in
    c.loop-attribute.invariant ys has ∙ ap (λ xs. map difference_view c.args.found.now.items ++ lacking c.args.lack (names_of (attributes_of xs)) ys) all
