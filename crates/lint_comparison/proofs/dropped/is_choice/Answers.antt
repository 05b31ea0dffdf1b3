use Rattle.std.proofs.Common.{◌∙◌, ap, sym}
use Rattle.fluent_ast.specs.Borrowed.{inline_of}
use Rattle.lint_findings.specs.Losses.{is_choice}
use Rattle.lint_nodes.specs.NodeView.{node_view}
use Rattle.lint_comparison.proofs.LossesAdded.{more_than_one}
use Rattle.lint_comparison.proofs.dropped.is_choice.Goals as goal

pub returns-in-Select : goal.returns-in-Select
returns-in-Select c = more_than_one (inline_of c.in-Select.selector.now) c.in-Select.variants.now ∙ ap (λ node. is_choice (node_view node)) (sym c.in-Select.is)
