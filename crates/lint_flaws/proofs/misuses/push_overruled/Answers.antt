use Rattle.std.proofs.Common.{◌∙◌}
use Rattle.fluent_ast.specs.Borrowed.{inline_of}
use Rattle.fluent_ast.specs.View.{named_view}
use Rattle.fluent_ast.proofs.Views.{named_view-out}
use Rattle.lint_findings.specs.Misuses.{overruled_by}
use Rattle.lint_flaws.specs.BuiltinView.{builtin_view}
use Rattle.lint_flaws.proofs.Arguments.{one_argument}
use Rattle.lint_flaws.proofs.misuses.push_overruled.Goals as goal

pub loop-argument-preserved : goal.loop-argument-preserved
loop-argument-preserved c =
    one_argument (overruled_by (builtin_view c.args.row.now) c.args.style.now) (named_view _ (λ s. s.now)) c.args.named.now c.loop-argument.argument-index _ c.argument-item.result _ _
    c.loop-argument.found.items c.push_component.new.found.items c.loop-argument-test.true c.argument-item.is (named_view-out _ (λ s. s.now) c.argument-item.result)
    (c.in_ok-push_component.ensures (inline_of c.argument-item.result.value))
    ∙ c.loop-argument.invariant
