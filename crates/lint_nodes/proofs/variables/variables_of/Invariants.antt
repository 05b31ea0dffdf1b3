use Rattle.std.proofs.Common.{◌-◌, length}
use Rattle.lint_findings.specs.Comparison.{messages_of}
use Rattle.fluent_ids.specs.IdsView.{ids_view}
use Rattle.lint_nodes.proofs.Reaching.{IsReaching}
use Rattle.lint_nodes.proofs.variables.variables_of.Given as goal

abbrev pub invariant-loop-next : goal.invariant-loop-next
invariant-loop-next g l = IsReaching (ids_view g.row.F.Denot l.ids) l.id l.reached l.next

abbrev pub decreases-loop-next : goal.decreases-loop-next
decreases-loop-next g l = length (messages_of (ids_view g.row.F.Denot l.ids) l.id) - l.next
