use Rattle.std.proofs.Common.{◌≡◌, ◌∙◌, ℕ, List, Some, length, ap, arith, map, subst, sym}
use Rattle.std.proofs.lemmas.List.{length-map, with_items_is}
use Rattle.std.specs.Prelude.{All, IfOk}
use Rattle.lint_files.specs.RulesView.{rules_view}
use Rattle.lint_findings.specs.View.{file_view, findings_view}
use Rattle.lint_findings.specs.declared.records.File.{File}
use Rattle.lint_findings.specs.declared.records.FileFindings.{FileFindings}
use Rattle.lint_findings.specs.Findings.{FileFinding}
use Rattle.lint_findings.specs.Summary.{Summary, entry_count}
use Rattle.lint_report.specs.ReportView.{summary_view}
use Rattle.fluent_lint.specs.FileTiles.{AreTilesOf, files_of, files_view}
use Rattle.fluent_lint.specs.Found.{found_by}
use Rattle.fluent_lint.specs.Reported.{kept_of}
use Rattle.fluent_lint.specs.LintReport.{all_summaries}
use Rattle.fluent_lint.specs.Reports.{IsReportOf, counts_by, ignored_by}
use Rattle.fluent_lint.proofs.reports.report_by_rules.Goals as goal

pub all_findings-requires-clause-references : goal.all_findings-requires-clause-references
all_findings-requires-clause-references c = subst (All AreTilesOf) (sym c.deref.ensures.value) c.in_ok-references.ensures.tiles

pub all_findings-requires-clause-files : goal.all_findings-requires-clause-files
all_findings-requires-clause-files c = subst (All AreTilesOf) (sym c.deref-2.ensures.value) c.in_ok-files.ensures.tiles

pub shown_counts-requires-clause-references : goal.shown_counts-requires-clause-references
shown_counts-requires-clause-references c = subst (All AreTilesOf) (sym c.deref-3.ensures.value) c.in_ok-references.ensures.tiles

pub shown_counts-requires-clause-files : goal.shown_counts-requires-clause-files
shown_counts-requires-clause-files c = subst (All AreTilesOf) (sym c.deref-4.ensures.value) c.in_ok-files.ensures.tiles

pub returns : goal.returns
returns c =
    let rules = rules_view c.args.rules.now in
    let output = c.args.output in
    let ignored = ignored_by output in
    let references = c.args.references.now.files.now in
    let files = c.args.files.now.files.now in
    let found = found_by rules (Some c.args.looked) (files_view references) (files_view files) in
    let found_there : findings_view c.in_ok-found.found.items ≡ found =
    c.in_ok-found.ensures
    ∙ ap (λ (fs : List File). found_by rules (Some c.args.looked) (files_view fs) (files_view (files_of c.deref-2.result.now))) (ap files_of c.deref.ensures.value ∙ c.in_ok-references.ensures.files)
    ∙ ap (λ (fs : List File). found_by rules (Some c.args.looked) (files_view references) (files_view fs)) (ap files_of c.deref-2.ensures.value ∙ c.in_ok-files.ensures.files) in
    let whole = c.in_ok-found.found in
    let number_left : length c.keep_reported.new.found ≡ whole.len =
    omega (arith, c.keep_reported.auto.found, c.deref_mut.ensures.len, whole.ok.0) in
    let left = kept_of ignored found in
    let left_there : findings_view c.deref-7.result.now ≡ left =
    ap findings_view (c.deref-7.ensures.value ∙ with_items_is whole c.keep_reported.new.found number_left)
    ∙ c.keep_reported.ensures
    ∙ ap (λ (fs : List FileFindings). kept_of ignored (findings_view fs)) c.deref_mut.ensures.value
    ∙ ap (kept_of ignored) found_there in
    let counts : map summary_view c.deref-8.result.now ≡ counts_by output (all_summaries (files_view references) (files_view files) found) =
    ap (map summary_view) c.deref-8.ensures.value
    ∙ c.in_ok-counts.ensures
    ∙ ap (λ (fs : List FileFinding). counts_by output (all_summaries (files_view (files_of c.deref-3.result.now)) (files_view (files_of c.deref-4.result.now)) fs)) (ap findings_view c.deref-5.ensures.value ∙ found_there)
    ∙ ap (λ (fs : List File). counts_by output (all_summaries (files_view fs) (files_view (files_of c.deref-4.result.now)) found)) (ap files_of c.deref-3.ensures.value ∙ c.in_ok-references.ensures.files)
    ∙ ap (λ (fs : List File). counts_by output (all_summaries (files_view references) (files_view fs) found)) (ap files_of c.deref-4.ensures.value ∙ c.in_ok-files.ensures.files) in
    let number : length files ≡ length (files_view files) = sym (length-map files file_view) in
    let entries : c.in_ok-entries.entries ≡ entry_count (files_view files) =
    c.in_ok-entries.ensures ∙ ap (λ (fs : List File). entry_count (files_view fs)) (ap files_of c.deref-6.ensures.value ∙ c.in_ok-files.ensures.files) in
    subst (λ (n : ℕ). IfOk c.report_findings.result (IsReportOf left (counts_by output (all_summaries (files_view references) (files_view files) found)) (length (files_view files)) n output)) entries
    (subst (λ (n : ℕ). IfOk c.report_findings.result (IsReportOf left (counts_by output (all_summaries (files_view references) (files_view files) found)) n c.in_ok-entries.entries output)) number
    (subst (λ (ss : List Summary). IfOk c.report_findings.result (IsReportOf left ss (length files) c.in_ok-entries.entries output)) counts
    (subst (λ (fs : List FileFinding). IfOk c.report_findings.result (IsReportOf fs (map summary_view c.deref-8.result.now) (length files) c.in_ok-entries.entries output)) left_there c.report_findings.ensures)))

pub entry_count-requires : goal.entry_count-requires
entry_count-requires c = subst (All AreTilesOf) (sym c.deref-6.ensures.value) c.in_ok-files.ensures.tiles
