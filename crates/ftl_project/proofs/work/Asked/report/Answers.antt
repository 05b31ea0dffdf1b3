use Rattle.std.proofs.Common.{◌≡◌, ◌∙◌, ◌++◌, ap, map}
use Rattle.std.proofs.lemmas.Result.{IfOk-weaker}
use Rattle.fluent_project.specs.Views.{plain}
use Rattle.ftl_arguments.specs.CommandView.{project_lint_view}
use Rattle.ftl_project.specs.GroupsFound.{groups_found}
use Rattle.ftl_project.specs.Left.{left_of}
use Rattle.ftl_project.specs.Paths.{path_in, paths}
use Rattle.ftl_project.specs.ProjectReports.{IsReportMade, groups_in, ignored_in, seen_by}
use Rattle.ftl_project.specs.Reports.{IsReportOf, groups_view, report_view}
use Rattle.ftl_project.proofs.ProjectReports.{report_on}
use Rattle.ftl_project.proofs.work.Asked.report.Goals as goal

pub returns : goal.returns
returns c =
    let l = project_lint_view c.args.lint.now in
    let known = c.args.known.now in
    let s = seen_by c.args.self.now c.args.project.now c.args.references.now c.args.linted in
    let codes = plain c.deref-4.result.now in
    let found = groups_view c.in_ok-groups.groups.items in
    let ignored : codes ≡ ignored_in s.project l =
    ap plain c.deref-4.ensures.value ∙ c.in_ok-ignored.ensures
    ∙ ap (λ x. plain x ++ plain c.deref-3.result.now) c.deref-2.ensures.value
    ∙ ap (λ x. plain c.args.project.now.ignored.items ++ plain x) c.deref-3.ensures.value in
    let only : paths c.deref-5.result.now ≡ map (path_in s.here) l.only =
    ap paths c.deref-5.ensures.value ∙ c.in_ok-only.ensures ∙ ap (λ x. map (path_in s.here) (plain x)) c.deref.ensures.value in
    let groups : found ≡ groups_in l s = c.in_ok-groups.ensures ∙ ap (λ o. groups_found s.project o s.references s.linted) only in
    IfOk-weaker c.report_groups.result (λ made. IsReportOf l.format l.notes l.strict (left_of codes l.notes known found) (report_view made))
    (IsReportMade c.args.lint.now known s) (λ made is. report_on l known s codes found (report_view made) ignored groups is) c.report_groups.ensures.report
