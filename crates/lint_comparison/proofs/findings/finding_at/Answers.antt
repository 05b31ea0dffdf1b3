use Rattle.std.proofs.Common.{◌∙◌, option_map, string_bytes}
use Rattle.std.proofs.lemmas.Result.{IfOk-weaker}
use Rattle.lint_findings.specs.DifferenceView.{difference_view}
use Rattle.lint_comparison.proofs.Hinting.{hinted_finding}
use Rattle.lint_comparison.proofs.findings.finding_at.Goals as goal

pub returns : goal.returns
returns c =
    let d = difference_view c.args.difference.now in
    IfOk-weaker c.finding.result _ _
    (λ found is. λ known has. is ∙ hinted_finding c.args.source.now c.args.id.now c.args.text.now known d c.place_of-place.result.now c.offset_of.result (option_map string_bytes c.in_ok-hint.hint) c.offset_of.ensures
    (c.place_of-place.ensures c.requires) (c.in_ok-hint.ensures known has))
    c.finding.ensures
