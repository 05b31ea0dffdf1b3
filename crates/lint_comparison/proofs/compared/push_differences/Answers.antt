use Rattle.std.proofs.Common.{◌∙◌, ap, sym}
use Rattle.fluent_ids.specs.Found.{lent_message}
use Rattle.fluent_ids.specs.IdsView.{ids_view}
use Rattle.lint_comparison.proofs.Variables.{none_listed}
use Rattle.lint_comparison.proofs.compared.push_differences.Goals as goal

pub returns-in-None-None-clause-known : goal.returns-in-None-None-clause-known
returns-in-None-None-clause-known c =
    none_listed (ids_view (Unit {0}) c.args.reference.now) c.args.id.now (sym c.requires ∙ ap lent_message c.in-None-None.is-1) c.new.result c.new.ensures

pub returns-in_ok-push-in-Some-None-clause-known : goal.returns-in_ok-push-in-Some-None-clause-known
returns-in_ok-push-in-Some-None-clause-known c =
    none_listed (ids_view (Unit {0}) c.args.reference.now) c.args.id.now (sym c.requires ∙ ap lent_message c.in-Some-None.is-1) c.new-in-Some-None.result c.new-in-Some-None.ensures
