use Rattle.std.proofs.Common.{◌≡◌, ◌∙◌, List, Some, None, option_map, ap, subst, sym}
use Rattle.std.specs.Prelude.{IfOk}
use Rattle.std.proofs.lemmas.Result.{IfOk-weaker}
use Rattle.std.specs.List.{slice_get}
use Rattle.lint_files.specs.RulesView.{rules_view}
use Rattle.lint_findings.specs.Files.{File}
use Rattle.fluent_lint.specs.Languages.{IsFoundForAll, catalogs_with}
use Rattle.fluent_lint.specs.ReferenceView.{files_found}
use Rattle.fluent_lint.specs.Translated.{original_view}
use Rattle.fluent_lint.proofs.ForOriginal.{with_original}
use Rattle.fluent_lint.proofs.language.found_for.Goals as goal

pub returns-in-Some : goal.returns-in-Some
returns-in-Some c =
    let rules = rules_view c.args.rules.now in
    let reference = c.args.reference.now in
    let own = c.args.file in
    let i = c.in-File.index in
    let other = c.in-Some.other in
    let there : Some (original_view other) ≡ slice_get (files_found reference.found.items) i = ap (option_map original_view) (sym c.in-Some.is) ∙ c.file.ensures.found in
    subst (λ o. IfOk c.found_in_pair.result (IsFoundForAll rules reference own o c.args.others.now c.found_in_pair.new.others)) (sym c.in-File.is)
    (IfOk-weaker c.found_in_pair.result _ _
    (λ found is. λ (files : List File) wide.
    with_original rules (catalogs_with reference files) own c.args.others.now c.found_in_pair.new.others found (files_found reference.found.items) i (Some (original_view other)) there
    (is (catalogs_with reference files) (record { mine = wide; theirs = c.in-Some.ensures.wide })))
    c.found_in_pair.ensures)

pub returns-in-None : goal.returns-in-None
returns-in-None c =
    let rules = rules_view c.args.rules.now in
    let reference = c.args.reference.now in
    let own = c.args.file in
    let i = c.in-File.index in
    let there : None ≡ slice_get (files_found reference.found.items) i = ap (option_map original_view) (sym c.in-None.is) ∙ c.file.ensures.found in
    subst (λ o. IfOk c.found_alone.result (IsFoundForAll rules reference own o c.args.others.now c.found_alone.new.others)) (sym c.in-File.is)
    (IfOk-weaker c.found_alone.result _ _
    (λ found is. λ (files : List File) wide.
    with_original rules (catalogs_with reference files) own c.args.others.now c.found_alone.new.others found (files_found reference.found.items) i None there
    (is (catalogs_with reference files)))
    c.found_alone.ensures)

pub returns-in-Lacking : goal.returns-in-Lacking
returns-in-Lacking c =
    let rules = rules_view c.args.rules.now in
    let reference = c.args.reference.now in
    subst (λ o. IfOk c.found_obsolete.result (IsFoundForAll rules reference c.args.file o c.args.others.now c.found_obsolete.new.others)) (sym c.in-Lacking.is)
    (IfOk-weaker c.found_obsolete.result _ _ (λ found is. λ files wide. is (catalogs_with reference files)) c.found_obsolete.ensures)

pub returns-in-Unasked : goal.returns-in-Unasked
returns-in-Unasked c =
    let rules = rules_view c.args.rules.now in
    let reference = c.args.reference.now in
    subst (λ o. IfOk c.found_alone-in-Unasked.result (IsFoundForAll rules reference c.args.file o c.args.others.now c.found_alone-in-Unasked.new.others)) (sym c.in-Unasked.is)
    (IfOk-weaker c.found_alone-in-Unasked.result _ _ (λ found is. λ files wide. is (catalogs_with reference files)) c.found_alone-in-Unasked.ensures)
