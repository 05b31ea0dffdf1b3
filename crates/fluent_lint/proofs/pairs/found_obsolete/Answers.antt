use Rattle.std.proofs.Common.{◌≡◌, ◌∙◌, None, [], ◌∷◌, ◌++◌, List, ap, ap₂, length, map, sym}
use Rattle.std.proofs.lemmas.List.{length-map, map-append}
use Rattle.lint_files.specs.RulesView.{rules_view}
use Rattle.lint_findings.specs.View.{file_view, finding_view}
use Rattle.lint_findings.specs.Finding.{Finding}
use Rattle.fluent_lint.specs.Lone.{obsolete_file_finding}
use Rattle.fluent_lint.specs.Pairs.{by_place, message_ids}
use Rattle.fluent_lint.specs.Taken.{taken}
use Rattle.fluent_lint.specs.Translated.{LanguageFile, alone_of, found_after}
use Rattle.fluent_lint.specs.declared.original.Messages.{Messages}
use Rattle.fluent_lint.proofs.InOrder.{map-in_order}
use Rattle.fluent_lint.proofs.pairs.found_obsolete.Goals as goal

pub returns : goal.returns
returns c = λ catalogs.
    let file = file_view c.args.file.now.file in
    let rules = rules_view c.args.rules.now in
    let made : List Finding → Messages → LanguageFile = λ fs m. record { findings = fs; messages = m } in
    let ids = c.in_ok-ids.ids.list in
    let count : c.len-alone.result ≡ length (message_ids file) =
    c.len-alone.ensures ∙ ids.ok.0 ∙ sym (length-map ids.items (λ s. s.now)) ∙ ap length c.in_ok-ids.ensures.listed in
    record {
      found_is = λ before first.
          let found = found_after rules catalogs before file None in
          let all = ap (map finding_view) c.in_ok-push.ensures.items
          ∙ map-append finding_view c.push_taken.new.findings.items (c.in_ok-obsolete.obsolete ∷ [])
          ∙ ap (λ l. l ++ finding_view c.in_ok-obsolete.obsolete ∷ []) (c.in_ok-push_taken.ensures.added before first ∙ ap (λ fs. fs ++ taken None file before) c.in_ok-findings.ensures)
          ∙ ap (λ f. found ++ f ∷ []) (c.in_ok-obsolete.ensures ∙ ap obsolete_file_finding count) in
          ap₂ made
          (ap (map finding_view) c.in_ok-order.ensures
          ∙ map-in_order finding_view (λ (f : Finding). f.offset) c.push.new.self.items
          ∙ ap by_place all)
          (ap alone_of count);
      declared = c.in_ok-push_taken.ensures.declared;
    }
