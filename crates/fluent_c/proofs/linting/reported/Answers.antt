use Rattle.std.proofs.Common.{◌≡◌, ◌∙◌, ap, refl, sym, subst}
use Rattle.std.specs.Prelude.{IsSomeAnd, vec_items}
use Rattle.fluent_c.specs.Made.{Holds}
use Rattle.fluent_c.specs.Texts.{with_nul}
use Rattle.fluent_c.proofs.linting.reported.Goals as goal

pub returns-clause-report : goal.returns-clause-report
returns-clause-report c =
    subst (λ found. IsSomeAnd found (λ report. Holds c.in_ok-text.text report.text × (c.in_ok-report.report.has_failed ≡ report.has_failed)))
    (sym c.in_ok-report.ensures.report) ((c.in_ok-text.ensures.0, c.in_ok-text.ensures.1 ∙ ap (λ bytes. with_nul (vec_items bytes)) c.into_bytes.ensures.value), refl)
