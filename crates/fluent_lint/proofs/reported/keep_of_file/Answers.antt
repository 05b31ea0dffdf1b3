use Rattle.std.proofs.Common.{◌∙◌, ap, map, not, rules}
use Rattle.std.proofs.lemmas.Fn.{filter_same}
use Rattle.fluent_grammar.specs.Words.{is_among}
use Rattle.fluent_resource.specs.Sources.{texts}
use Rattle.lint_findings.specs.View.{file_view, finding_view}
use Rattle.lint_findings.specs.declared.records.Finding.{Finding}
use Rattle.lint_findings.specs.Findings.{findings_in}
use Rattle.fluent_lint.proofs.Kept.{kept_viewed}
use Rattle.fluent_lint.proofs.reported.keep_of_file.Goals as goal

pub returns : goal.returns
returns c =
    let ignored = texts c.args.ignored.now in
    let file = file_view c.args.file.now.file in
    ap (λ fs. findings_in file (map finding_view fs)) (filter_same _ (λ (x : Finding). not (is_among (finding_view x).code ignored)) _ (λ x b f' k. search rules) _ _ c.retain.ensures.filtered)
    ∙ kept_viewed file c.args.file.now.findings.items ignored
