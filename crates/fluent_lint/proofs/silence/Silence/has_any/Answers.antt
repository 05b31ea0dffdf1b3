use Rattle.std.proofs.Common.{◌∙◌, rules}
use Rattle.std.proofs.lemmas.Iterator.{YieldsList-from_slice}
use Rattle.std.proofs.lemmas.Iterator.Search.{any_from_yields_List}
use Rattle.lint_findings.specs.View.{finding_view}
use Rattle.lint_findings.specs.declared.records.Finding.{Finding}
use Rattle.fluent_lint.specs.Silence.{silences_finding}
use Rattle.fluent_lint.specs.SilenceView.{silence_view}
use Rattle.fluent_lint.proofs.Silencing.{any_viewed}
use Rattle.fluent_lint.proofs.silence.Silence.has_any.Goals as goal

pub returns : goal.returns
returns c =
    let s = silence_view c.args.self.now in
    any_from_yields_List (λ (f : Finding). silences_finding s (finding_view f)) _ _ c.any.result c.any.ensures.ran
    (YieldsList-from_slice c.args.findings.now cc) (λ x b q k. search rules)
    ∙ any_viewed finding_view (λ f. silences_finding s f) c.args.findings.now
