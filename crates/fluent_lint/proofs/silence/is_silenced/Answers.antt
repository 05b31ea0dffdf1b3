use Rattle.std.proofs.Common.{◌∙◌, rules}
use Rattle.std.proofs.lemmas.Iterator.{YieldsList-from_slice}
use Rattle.std.proofs.lemmas.Iterator.Search.{any_from_yields_List}
use Rattle.lint_findings.specs.View.{finding_view}
use Rattle.fluent_lint.specs.Silence.{silences_finding}
use Rattle.fluent_lint.specs.SilenceView.{silence_view}
use Rattle.fluent_lint.specs.declared.silence.Silence.{Silence}
use Rattle.fluent_lint.proofs.Silencing.{any_viewed}
use Rattle.fluent_lint.proofs.silence.is_silenced.Goals as goal

pub returns : goal.returns
returns c =
    let f = finding_view c.args.finding.now in
    any_from_yields_List (λ (s : Silence). silences_finding (silence_view s) f) _ _ c.any.result c.any.ensures.ran
    (YieldsList-from_slice c.args.silences.now cc) (λ x b q k. search rules)
    ∙ any_viewed silence_view (λ s. silences_finding s f) c.args.silences.now
