use Rattle.std.proofs.Common.{◌∙◌, ap, map, not, codes, rules}
use Rattle.std.specs.Str.{bytes_eq}
use Rattle.std.proofs.lemmas.Fn.{filter_same}
use Rattle.lint_findings.specs.View.{finding_view}
use Rattle.lint_findings.specs.declared.records.Finding.{Finding}
use Rattle.lint_findings.specs.Finding as f
use Rattle.lint_files.proofs.Unquoted.{map-filter}
use Rattle.lint_files.proofs.entry.keep_unquoted.Goals as goal

pub returns : goal.returns
returns c =
    let quoted = codes "placeable-in-literal" in
    ap (map finding_view) (filter_same _ (λ (x : Finding). not (bytes_eq (finding_view x).code quoted)) _ (λ x b f' k. search rules) _ _ c.retain.ensures.filtered)
    ∙ map-filter finding_view (λ (f : f.Finding). not (bytes_eq f.code quoted)) c.args.found.now.items
