use Rattle.std.proofs.Common.{◌≡◌, ◌≤◌, ◌+◌, ◌++◌, ◌∙◌, ap, sym, arith, length, map, take, drop, append-nil}
use Rattle.std.proofs.lemmas.List.{map-set, length-map, take_all, drop_all}
use Rattle.std.proofs.Math.ListN.{get_or-map}
use Rattle.fluent_lint.proofs.Lists.{one_changed}
use Rattle.fluent_lint.specs.Reports.{ignored_by}
use Rattle.ftl_project.specs.Left.{kept_group}
use Rattle.ftl_project.specs.Reports.{group_view, groups_view}
use Rattle.ftl_project.proofs.report.keep_in_groups.Goals as goal

pub loop-group-preserved : goal.loop-group-preserved
loop-group-preserved c =
    let keep = kept_group (ignored_by c.args.output) in
    let gs = c.loop-group.groups in
    let i = c.loop-group.group-index in
    let d = c.group-item.result in
    ap (λ z. take (i + 1) z ++ map keep (drop (i + 1) z)) (map-set group_view gs i c.keep_in.new.group)
    ∙ one_changed keep (groups_view gs) i (group_view d) (group_view c.keep_in.new.group) (omega (arith, length-map gs group_view, c.loop-group-test.true))
    (c.keep_in.ensures ∙ ap keep (sym (get_or-map group_view gs i d)))
    ∙ c.loop-group.invariant

pub returns : goal.returns
returns c =
    let keep = kept_group (ignored_by c.args.output) in
    let now = c.loop-group.groups in
    let i = c.loop-group.group-index in
    let shown = groups_view now in
    let past : length shown ≤ i = omega (arith, length-map now group_view, c.loop-group-test.false) in
    sym (ap (λ l. l ++ map keep (drop i shown)) (take_all i shown past) ∙ ap (λ l. shown ++ map keep l) (drop_all i shown past) ∙ append-nil shown)
    ∙ c.loop-group.invariant
