use Rattle.std.proofs.Common.{◌≡◌, ◌++◌, length}
use Rattle.std.specs.Vec.Iter.{into_iter_items, into_iter_len}
use Rattle.lint_findings.specs.View.{findings_view}
use Rattle.ftl_project.specs.Reports.{all_found, groups_view}
use Rattle.ftl_project.proofs.report.all_found.Given as goal

abbrev pub invariant-loop-group : goal.invariant-loop-group
invariant-loop-group l =
    (findings_view l.all.items ++ all_found (groups_view (into_iter_items l.group-iterator))
    ≡ findings_view l.initial.all.items ++ all_found (groups_view (into_iter_items l.initial.group-iterator)))
    × (into_iter_len l.group-iterator ≡ length (into_iter_items l.group-iterator))
