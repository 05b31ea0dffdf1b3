use Rattle.std.proofs.Common.{◌≡◌, ◌++◌, map, take, drop}
use Rattle.fluent_lint.specs.Reports.{ignored_by}
use Rattle.ftl_project.specs.Left.{kept_group}
use Rattle.ftl_project.specs.Reports.{groups_view}
use Rattle.ftl_project.proofs.report.keep_in_groups.Given as goal

-- the groups so far without what is ignored, and then the others as they were
abbrev pub invariant-loop-group : goal.invariant-loop-group
invariant-loop-group l =
    let shown = groups_view l.groups in
    let keep = kept_group (ignored_by l.output) in
    take l.group-index shown ++ map keep (drop l.group-index shown) ≡ map keep (groups_view l.fn.groups)
