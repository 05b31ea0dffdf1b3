use Rattle.std.proofs.Common.{◌∙◌, ap, map, not, rules}
use Rattle.std.proofs.lemmas.Fn.{filter_same}
use Rattle.lint_findings.specs.View.{finding_view}
use Rattle.lint_findings.specs.declared.records.Finding.{Finding}
use Rattle.lint_findings.specs.Finding as f
use Rattle.fluent_lint.specs.Pairs.{is_known}
use Rattle.fluent_lint.proofs.InOrder.{map-filter}
use Rattle.fluent_lint.proofs.alike.keep_new.Goals as goal

pub returns : goal.returns
returns c =
    let known = map finding_view c.args.known.now in
    ap (map finding_view) (filter_same _ (λ (x : Finding). not (is_known known (finding_view x))) _ (λ x b f' k. search rules) _ _ c.retain.ensures.filtered)
    ∙ map-filter finding_view (λ (f : f.Finding). not (is_known known f)) c.args.findings.now.items
