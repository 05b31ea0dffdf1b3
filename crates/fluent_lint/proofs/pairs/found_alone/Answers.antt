use Rattle.std.proofs.Common.{◌∙◌, ◌++◌, None, List, ap, ap₂, map}
use Rattle.lint_findings.specs.View.{file_view, finding_view}
use Rattle.lint_findings.specs.Finding.{Finding}
use Rattle.fluent_lint.specs.Pairs.{by_place}
use Rattle.fluent_lint.specs.Taken.{taken}
use Rattle.fluent_lint.specs.Translated.{LanguageFile}
use Rattle.fluent_lint.specs.declared.original.Messages.{Messages}
use Rattle.fluent_lint.proofs.InOrder.{map-in_order}
use Rattle.fluent_lint.proofs.pairs.found_alone.Goals as goal

pub returns : goal.returns
returns c = λ catalogs.
    let file = file_view c.args.file.now.file in
    let made : List Finding → Messages → LanguageFile = λ fs m. record { findings = fs; messages = m } in
    record {
      found_is = λ before first.
          ap₂ made
          (ap (map finding_view) c.in_ok-order.ensures
          ∙ map-in_order finding_view (λ (f : Finding). f.offset) c.push_taken.new.findings.items
          ∙ ap by_place (c.in_ok-push_taken.ensures.added before first ∙ ap (λ fs. fs ++ taken None file before) c.in_ok-findings.ensures))
          c.none.ensures;
      declared = c.in_ok-push_taken.ensures.declared;
    }
