use Rattle.std.proofs.Common.{◌∙◌, ap, map, not, rules}
use Rattle.std.proofs.lemmas.Fn.{filter_same}
use Rattle.lint_findings.specs.View.{finding_view}
use Rattle.lint_findings.specs.declared.records.Finding.{Finding}
use Rattle.lint_findings.specs.Finding as f
use Rattle.fluent_lint.specs.Silence.{is_silenced}
use Rattle.fluent_lint.specs.SilenceView.{silences_view}
use Rattle.fluent_lint.proofs.InOrder.{map-filter}
use Rattle.fluent_lint.proofs.silence.keep_unsilenced.Goals as goal

pub returns : goal.returns
returns c =
    let ss = silences_view c.args.silences.now in
    ap (map finding_view) (filter_same _ (λ (x : Finding). not (is_silenced ss (finding_view x))) _ (λ x b f' k. search rules) _ _ c.retain.ensures.filtered)
    ∙ map-filter finding_view (λ (f : f.Finding). not (is_silenced ss f)) c.args.findings.now.items
