use Rattle.std.proofs.Common.{◌≡◌, ◌∙◌, ◌++◌, List, Some, ap, ap₂, append_assoc, map, subst}
use Rattle.fluent_ids.specs.IdsView.{ids_view}
use Rattle.lint_entries.specs.First.{AreFirst}
use Rattle.lint_files.specs.RulesView.{rules_view}
use Rattle.lint_findings.specs.View.{finding_view}
use Rattle.lint_findings.specs.Finding.{Finding}
use Rattle.fluent_lint.specs.Pairs.{by_place, found_in_file, gaps, new_among, own_ids}
use Rattle.fluent_lint.specs.Shown.{differences}
use Rattle.fluent_lint.specs.Taken.{declared_with, taken}
use Rattle.fluent_lint.specs.Translated.{LanguageFile, found_after, own_file, translated_of}
use Rattle.fluent_lint.specs.declared.original.Messages.{Messages}
use Rattle.fluent_lint.proofs.InOrder.{map-in_order}
use Rattle.fluent_lint.proofs.pairs.found_in_pair.Goals as goal

pub returns : goal.returns
returns c = λ catalogs shown.
    let rules = rules_view c.args.rules.now in
    let file = own_file c.args.file in
    let other = own_file c.args.original.file in
    let known = map finding_view c.args.original.known.now in
    let made : List Finding → Messages → LanguageFile = λ fs m. record { findings = fs; messages = m } in
    let ids_is : Some (ids_view (Unit {0}) c.args.original.file.ids.now) ≡ Some (own_ids other.source) = ap (λ ids. Some ids) c.requires.original.ids in
    record {
      found_is = λ before first.
          let these = found_after rules catalogs before file (Some (own_ids other.source)) in
          let taken_is : map finding_view c.push_taken.new.findings.items ≡ these =
          c.in_ok-push_taken.ensures.added before first
          ∙ ap (λ fs. fs ++ taken (Some (ids_view (Unit {0}) c.args.original.file.ids.now)) file before) c.in_ok-findings.ensures
          ∙ ap (λ o. found_in_file rules file ++ taken o file before) ids_is in
          let new : map finding_view c.keep_new.new.findings.items ≡ new_among known these =
          c.keep_new.ensures ∙ ap (new_among known) taken_is in
          let differ : map finding_view c.push_differences.new.findings.items ≡ new_among known these ++ differences rules.plurals catalogs.mine catalogs.theirs file other =
          c.in_ok-push_differences.ensures catalogs shown ∙ ap (λ l. l ++ differences rules.plurals catalogs.mine catalogs.theirs file other) new in
          let all : map finding_view c.push_gaps.new.findings.items ≡ new_among known these ++ (differences rules.plurals catalogs.mine catalogs.theirs file other ++ gaps file other) =
          c.in_ok-translated.ensures.added
          ∙ ap (λ l. l ++ gaps file other) differ
          ∙ append_assoc (new_among known these) (differences rules.plurals catalogs.mine catalogs.theirs file other) (gaps file other) in
          ap₂ made
          (ap (map finding_view) c.in_ok-order.ensures
          ∙ map-in_order finding_view (λ (f : Finding). f.offset) c.push_gaps.new.findings.items
          ∙ ap by_place all)
          (ap translated_of c.in_ok-translated.ensures.translated);
      declared = λ before first.
          subst (λ o. AreFirst c.push_taken.new.others (declared_with o file before)) ids_is (c.in_ok-push_taken.ensures.declared before first);
    }
