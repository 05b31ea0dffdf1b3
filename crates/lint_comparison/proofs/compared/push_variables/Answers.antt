use Rattle.std.proofs.lemmas.Result.{on_ok_weaker}
use Rattle.lint_findings.specs.Comparison.{variables_of}
use Rattle.fluent_ids.specs.IdsView.{ids_view}
use Rattle.lint_comparison.proofs.compared.push_variables.Goals as goal

pub returns-clause-added : goal.returns-clause-added
returns-clause-added c =
    on_ok_weaker c.push_variables_by.result (λ adds. adds (variables_of (ids_view (Unit {0}) c.args.ids.now) c.args.id.now) c.in_ok-variables.ensures) c.push_variables_by.ensures.added
