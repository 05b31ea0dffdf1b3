use Rattle.std.proofs.Common.{◌≡◌, ◌∙◌, ◌++◌, [], ap, arith, drop, length, sym, take}
use Rattle.std.proofs.lemmas.List.{length-map}
use Rattle.fluent_lint.specs.Reports.{ignored_by}
use Rattle.ftl_project.specs.Baselines.{with_shown}
use Rattle.ftl_project.specs.Left.{kept_by, kept_group, left, lines_in, new_groups}
use Rattle.ftl_project.specs.Reports.{all_found, group_view, groups_view}
use Rattle.ftl_project.proofs.Lines.{new_by_none, report_from, take_front}
use Rattle.ftl_project.proofs.report.report_groups.Goals as goal

pub returns-in-Nothing-clause-report : goal.returns-in-Nothing-clause-report
returns-in-Nothing-clause-report c =
    let o = c.args.output in
    let given = groups_view c.args.groups.items in
    let new = c.keep_in_groups.new.groups in
    let kept = c.keep_in_groups.ensures ∙ ap (λ gs. kept_by o (groups_view gs)) c.deref_mut.ensures.value in
    let long : length new ≡ c.args.groups.len =
    omega (arith, ap length kept, length-map new group_view, length-map given (kept_group (ignored_by o)), length-map c.args.groups.items group_view, c.deref_mut.ensures.len, ap length c.deref_mut.ensures.value) in
    let same = take_front new (drop (length new) c.args.groups.items) c.args.groups.len long in
    report_from o (groups_view (take c.args.groups.len (new ++ drop (length new) c.args.groups.items))) (left o c.args.known given) c.report_kept.result
    c.report_kept.ensures.text c.report_kept.ensures.failed
    (ap groups_view same ∙ kept ∙ sym (new_by_none (kept_by o given)) ∙ ap (λ k. left o k given) (sym c.in-Nothing.is))

pub returns-in_ok-groups-in-All-clause-report : goal.returns-in_ok-groups-in-All-clause-report
returns-in_ok-groups-in-All-clause-report c =
    let o = c.args.output in
    let given = groups_view c.args.groups.items in
    let new = c.keep_in_groups.new.groups in
    let kept = c.keep_in_groups.ensures ∙ ap (λ gs. kept_by o (groups_view gs)) c.deref_mut.ensures.value in
    let long : length new ≡ c.args.groups.len =
    omega (arith, ap length kept, length-map new group_view, length-map given (kept_group (ignored_by o)), length-map c.args.groups.items group_view, c.deref_mut.ensures.len, ap length c.deref_mut.ensures.value) in
    let same = take_front new (drop (length new) c.args.groups.items) c.args.groups.len long in
    let now = groups_view (take c.args.groups.len (new ++ drop (length new) c.args.groups.items)) in
    let lines = c.in_ok-baseline-in-All.ensures ∙ ap (λ gs. with_shown o.notes [] (all_found (groups_view gs))) c.deref.ensures.value in
    report_from o (groups_view c.in_ok-groups-in-All.groups.items) (left o c.args.known given) c.report_kept-in-All.result
    c.report_kept-in-All.ensures.text c.report_kept-in-All.ensures.failed
    (c.in_ok-groups-in-All.ensures ∙ ap (λ ls. new_groups ls now) lines
    ∙ ap (λ gs. new_groups (lines_in o.notes gs) gs) (ap groups_view same ∙ kept) ∙ ap (λ k. left o k given) (sym c.in-All.is))
