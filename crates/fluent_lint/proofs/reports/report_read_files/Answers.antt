use Rattle.std.proofs.Common.{◌∙◌, List, Some, ap, subst, sym}
use Rattle.std.specs.Prelude.{IfOk}
use Rattle.fluent_ids.specs.IdsView.{ids_view}
use Rattle.lint_nodes.specs.Catalog.{AreDeclaredIn}
use Rattle.lint_nodes.specs.EndlessView.{ids_of}
use Rattle.lint_entries.proofs.CommonIn.{in_language as common_in_language}
use Rattle.lint_entries.specs.Terms.{is_referred}
use Rattle.lint_files.specs.RulesView.{compare_with}
use Rattle.lint_findings.specs.Findings.{FileFinding, Rules}
use Rattle.fluent_lint.specs.FileTiles.{files_view}
use Rattle.fluent_lint.specs.Found.{found_by, looked_with}
use Rattle.fluent_lint.specs.KnownIds.{compare_by}
use Rattle.fluent_lint.specs.Reports.{IsReportWith, options_view}
use Rattle.fluent_lint.proofs.Found.{all_found, known_declared}
use Rattle.fluent_lint.proofs.reports.report_read_files.Goals as goal

pub new-requires : goal.new-requires
new-requires c =
    let known = c.in_ok-known.known in
    let ids = ids_view (Unit {0}) known.ids in
    let files = c.args.files.now in
    subst (λ trees. AreDeclaredIn ids trees) (sym c.deref.ensures.value)
    (known_declared (options_view c.args.options.now) (files_view c.args.references.now.files.now) files.files.now files.trees.items c.requires.files.trees ids c.in_ok-known.ensures.ids)

pub invariant_of-catalog : goal.invariant_of-catalog
invariant_of-catalog c =
    record { in_language = common_in_language c.args.options.now.plurals c.of-common.result c.of-common.ensures }

pub returns : goal.returns
returns c =
    let known = c.in_ok-known.known in
    let references = c.args.references.now.files.now in
    let files = c.args.files.now.files.now in
    let reference = ids_view (Unit {0}) known.reference in
    let same = c.in_ok-endless.ensures in
    let o = options_view c.args.options.now in
    let rules : Rules = record {
      functions = ids_view (Unit {0}) known.functions;
      ids = ids_of c.in_ok-endless.endless;
      reference = reference;
      plurals = o.plurals;
      is_referred = is_referred c.in_ok-terms.terms;
      compare = compare_with c.comparison.result;
    } in
    subst (λ (found : List FileFinding). IfOk c.report_by_rules.result (IsReportWith found references files c.args.output))
    (ap (λ looked. found_by rules (Some looked) (files_view references) (files_view files)) c.in_catalog-looked.ensures
    ∙ all_found o (files_view files) (Some (looked_with o (files_view references))) references (is_referred c.in_ok-terms.terms) (ids_view (Unit {0}) known.functions) (ids_of c.in_ok-endless.endless) reference
    (compare_with c.comparison.result) c.in_ok-terms.ensures c.in_ok-known.ensures.functions (same ∙ c.in_ok-known.ensures.ids) c.in_ok-known.ensures.reference
    (c.comparison.ensures ∙ ap (λ ids. compare_by ids reference o.plurals references) (sym same)))
    c.report_by_rules.ensures
