use Rattle.std.proofs.Common.{◌∙◌}
use Rattle.fluent_ast.specs.View.{named_view}
use Rattle.fluent_ast.proofs.Views.{named_view-out}
use Rattle.lint_findings.specs.Misuses.{argument_misuse}
use Rattle.lint_flaws.specs.BuiltinView.{builtin_view}
use Rattle.lint_flaws.proofs.Arguments.{one_argument}
use Rattle.lint_flaws.proofs.misuses.push_named.Goals as goal

pub loop-argument-preserved : goal.loop-argument-preserved
loop-argument-preserved c =
    one_argument (argument_misuse (builtin_view c.args.row.now)) (named_view _ (λ s. s.now)) c.args.named.now c.loop-argument.argument-index _ c.argument-item.result _ _
    c.loop-argument.found.items c.push_argument.new.found.items c.loop-argument-test.true c.argument-item.is (named_view-out _ (λ s. s.now) c.argument-item.result)
    c.in_ok-push_argument.ensures
    ∙ c.loop-argument.invariant
