use Rattle.std.proofs.Common.{◌∙◌, map}
use Rattle.fluent_ast.specs.View.{named_view}
use Rattle.fluent_ast.proofs.Views.{named_view-out}
use Rattle.lint_nodes.specs.NodeView.{node_view}
use Rattle.lint_flaws.proofs.FactSteps.{one_argument}
use Rattle.lint_flaws.proofs.facts.push_named.Goals as goal

pub loop-argument-preserved : goal.loop-argument-preserved
loop-argument-preserved c =
    one_argument c.args.id.now (map node_view c.args.nodes.now) (named_view _ (λ s. s.now)) c.args.named.now c.loop-argument.argument-index _ c.argument-item.result _ _
    c.loop-argument.found.items c.push_argument.new.found.items c.loop-argument-test.true c.argument-item.is (named_view-out _ (λ s. s.now) c.argument-item.result)
    c.in_ok-push_argument.ensures
    ∙ c.loop-argument.invariant
