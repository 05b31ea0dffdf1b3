use Rattle.std.proofs.Common.{◌∙◌, ap}
use Rattle.lint_nodes.specs.HasNames.{texts}
use Rattle.lint_findings.specs.Comparison.{has_new, variables_of}
use Rattle.fluent_ids.specs.IdsView.{ids_view}
use Rattle.lint_comparison.proofs.ComparedParts.{variables_added}
use Rattle.lint_comparison.proofs.compared.push_variables_by.Goals as goal

pub returns-clause-added : goal.returns-clause-added
returns-clause-added c = λ xs has.
    let vs = variables_of (ids_view (Unit {0}) c.args.reference.now) c.args.id.now in
    variables_added _ _ _ c.args.other c.args.variables.now c.in_ok-others.others xs vs c.deref.result.now c.deref-3.result.now c.has_new-has_unknown.result has c.in_ok-others.ensures c.deref.ensures.value c.deref-3.ensures.value
    (c.has_new-has_unknown.ensures vs c.in_ok-others.ensures ∙ ap (λ ns. has_new ns vs) (ap texts c.deref-2.ensures.value ∙ has.listed))
    (c.in_ok-push_new.ensures vs c.in_ok-others.ensures) (c.in_ok-push_new-2.ensures xs has)
