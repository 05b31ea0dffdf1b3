use Rattle.std.proofs.Common.{◌∙◌, rules}
use Rattle.std.proofs.lemmas.Iterator.{YieldsList-from_slice}
use Rattle.std.proofs.lemmas.Iterator.Search.{any_from_yields_List}
use Rattle.lint_findings.specs.View.{finding_view}
use Rattle.lint_findings.specs.declared.records.Finding.{Finding}
use Rattle.fluent_lint.specs.Pairs.{are_alike}
use Rattle.fluent_lint.proofs.AlikeFindings.{any_viewed}
use Rattle.fluent_lint.proofs.alike.is_known.Goals as goal

pub returns : goal.returns
returns c =
    any_from_yields_List (λ (g : Finding). are_alike (finding_view c.args.finding.now) (finding_view g)) _ _ c.any.result c.any.ensures.ran
    (YieldsList-from_slice c.args.known.now cc) (λ x b q k. search rules)
    ∙ any_viewed (finding_view c.args.finding.now) c.args.known.now
