use Rattle.std.proofs.Common.{◌≡◌, ◌∙◌, List, [], Bool, Option, ap, subst, sym}
use Rattle.std.specs.Prelude.{IfOk}
use Rattle.fluent_grammar.specs.Words.{Text}
use Rattle.fluent_ids.specs.IdsView.{ids_view}
use Rattle.fluent_meaning.specs.Ids.{Ids}
use Rattle.lint_comparison.specs.declared.reference.Reference.{Reference}
use Rattle.lint_nodes.specs.Catalog.{AreDeclaredIn}
use Rattle.lint_nodes.specs.EndlessView.{ids_of}
use Rattle.lint_entries.proofs.CommonIn.{in_language as common_in_language}
use Rattle.lint_entries.specs.Terms.{is_referred}
use Rattle.lint_files.specs.RulesView.{compare_with}
use Rattle.lint_findings.specs.declared.records.File.{File}
use Rattle.lint_findings.specs.Findings.{Rules, known_ids, sources}
use Rattle.lint_findings.specs.UnusedTerms.{is_referred_in}
use Rattle.fluent_lint.specs.FileTiles.{files_of, files_view}
use Rattle.fluent_lint.specs.Languages.{AreFoundEach, catalogs_of, options_for, rules_for}
use Rattle.fluent_lint.specs.ReferenceView.{files_found}
use Rattle.fluent_lint.proofs.Found.{known_declared}
use Rattle.fluent_lint.proofs.language.language_findings.Goals as goal

pub of-requires-clause-references : goal.of-requires-clause-references
of-requires-clause-references c = c.requires.reference.is_read

pub new-requires : goal.new-requires
new-requires c =
    let reference = c.args.reference.now in
    let ids = ids_view (Unit {0}) c.in_ok-known.known.ids in
    let files = c.args.files.now in
    subst (λ trees. AreDeclaredIn ids trees) (sym c.deref.ensures.value)
    (known_declared (options_for reference c.args.plurals) (files_view reference.read.now.files.now) files.files.now files.trees.items c.requires.files.trees ids c.in_ok-known.ensures.ids)

pub invariant_of-catalog : goal.invariant_of-catalog
invariant_of-catalog c = record { in_language = common_in_language c.args.plurals c.of-common.result c.of-common.ensures }

pub returns : goal.returns
returns c =
    let reference = c.args.reference.now in
    let plurals = c.args.plurals in
    let o = options_for reference plurals in
    let rs = files_view reference.read.now.files.now in
    let read = c.args.files.now in
    let files = files_view read.files.now in
    let known = c.in_ok-known.known in
    let made : Ids (Unit {0}) → Ids (Unit {0}) → Ids (Unit {0}) → (Text → Bool) → Option Reference → Rules =
    λ functions ids others referred compared. record {
      functions = functions;
      ids = ids;
      reference = others;
      plurals = plurals;
      is_referred = referred;
      compare = compare_with compared;
    } in
    let ids = ids_of c.in_ok-endless.endless in
    let others = ids_view (Unit {0}) known.reference in
    let referred = is_referred c.in_ok-terms.terms in
    let compared = c.no_comparison.result in
    let same : referred ≡ is_referred_in (sources files) = λ i. λ id. c.in_ok-terms.ensures id i in
    let rules_are : made (ids_view (Unit {0}) known.functions) ids others referred compared ≡ rules_for reference plurals read.files.now =
    ap (λ these. made these ids others referred compared) c.in_ok-known.ensures.functions
    ∙ ap (λ these. made (known_ids o rs []) these others referred compared) (c.in_ok-endless.ensures ∙ c.in_ok-known.ensures.ids)
    ∙ ap (λ these. made (known_ids o rs []) (known_ids o rs files) these referred compared) c.in_ok-known.ensures.reference
    ∙ ap (λ these. made (known_ids o rs []) (known_ids o rs files) (known_ids o rs rs) these compared) same
    ∙ ap (made (known_ids o rs []) (known_ids o rs files) (known_ids o rs rs) (is_referred_in (sources files))) c.no_comparison.ensures in
    let found = files_found reference.found.items in
    subst (λ (fs : List File). IfOk c.found_in_files.result (AreFoundEach (rules_for reference plurals read.files.now) (catalogs_of reference fs) found c.args.originals.now fs)) c.in_ok-own.ensures.files
    (subst (λ (rules : Rules). IfOk c.found_in_files.result (AreFoundEach rules (catalogs_of reference (files_of c.in_ok-own.own.tiles.items)) found c.args.originals.now (files_of c.in_ok-own.own.tiles.items))) rules_are c.found_in_files.ensures)
