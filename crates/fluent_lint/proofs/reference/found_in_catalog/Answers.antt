use Rattle.std.proofs.Common.{◌∙◌, List, [], None, ap, subst, sym, append-nil}
use Rattle.fluent_ids.specs.IdsView.{ids_view}
use Rattle.lint_nodes.specs.Catalog.{AreDeclaredIn}
use Rattle.lint_nodes.specs.EndlessView.{ids_of}
use Rattle.lint_entries.proofs.CommonIn.{in_language as common_in_language}
use Rattle.lint_entries.specs.Terms.{is_referred}
use Rattle.lint_files.specs.RulesView.{compare_with}
use Rattle.lint_findings.specs.declared.records.File.{File}
use Rattle.lint_findings.specs.Findings.{Rules, catalog_rules}
use Rattle.fluent_lint.specs.FileTiles.{files_of, files_view}
use Rattle.fluent_lint.specs.Found.{found_by_files}
use Rattle.fluent_lint.specs.Reports.{options_view}
use Rattle.fluent_lint.proofs.Found.{all_found, known_declared}
use Rattle.fluent_lint.proofs.Kept.{files_found}
use Rattle.fluent_lint.proofs.reference.found_in_catalog.Goals as goal

pub new-requires : goal.new-requires
new-requires c =
    let ids = ids_view (Unit {0}) c.in_ok-known.known.ids in
    let files = c.args.files.now in
    subst (λ trees. AreDeclaredIn ids trees) (sym c.deref.ensures.value)
    (known_declared (options_view c.args.options.now) [] files.files.now files.trees.items c.requires.trees ids c.in_ok-known.ensures.ids)

pub invariant_of-catalog : goal.invariant_of-catalog
invariant_of-catalog c = record { in_language = common_in_language c.args.options.now.plurals c.of-common.result c.of-common.ensures }

pub returns : goal.returns
returns c =
    let o = options_view c.args.options.now in
    let read = c.args.files.now in
    let files = files_view read.files.now in
    let known = c.in_ok-known.known in
    let referred = is_referred c.in_ok-terms.terms in
    let functions = ids_view (Unit {0}) known.functions in
    let others = ids_view (Unit {0}) known.reference in
    let rules : Rules = record {
      functions = functions;
      ids = ids_of c.in_ok-endless.endless;
      reference = others;
      plurals = o.plurals;
      is_referred = referred;
      compare = compare_with c.no_comparison.result;
    } in
    record {
      found =
          c.in_ok-found.ensures.found
          ∙ ap (λ (fs : List File). found_by_files rules None [] (files_view fs)) (ap files_of c.deref-2.ensures.value ∙ c.in_ok-tiles.ensures.files)
          ∙ sym (append-nil (found_by_files rules None [] files))
          ∙ all_found o files None [] referred functions (ids_of c.in_ok-endless.endless) others
          (compare_with c.no_comparison.result) c.in_ok-terms.ensures c.in_ok-known.ensures.functions (c.in_ok-endless.ensures ∙ c.in_ok-known.ensures.ids) c.in_ok-known.ensures.reference (ap compare_with c.no_comparison.ensures)
          ∙ files_found (catalog_rules o files) files [];
      named = c.in_ok-found.ensures.files ∙ ap files_of c.deref-2.ensures.value ∙ c.in_ok-tiles.ensures.files;
    }
