use Rattle.std.proofs.Common.{◌∙◌, ap, map}
use Rattle.lint_entries.specs.TileView.{tile_view}
use Rattle.lint_files.specs.PartFindings.{findings_of_parts}
use Rattle.lint_files.specs.RulesView.{rules_view}
use Rattle.lint_findings.specs.View.{file_view, finding_view}
use Rattle.lint_findings.specs.Finding.{Finding}
use Rattle.lint_findings.specs.SyntaxFindings.{syntax_findings}
use Rattle.lint_findings.specs.Tiles.{tiles}
use Rattle.fluent_lint.specs.Pairs.{by_place}
use Rattle.fluent_lint.proofs.InOrder.{map-in_order}
use Rattle.fluent_lint.proofs.findings.findings_of_file.Goals as goal

pub returns-clause-findings : goal.returns-clause-findings
returns-clause-findings c = λ before first.
    let file = file_view c.args.file.now.file in
    let found = findings_of_parts (rules_view c.args.rules.now) file before in
    let syntax = syntax_findings (tiles file.source) in
    ap (map finding_view) c.in_ok-order.ensures
    ∙ map-in_order finding_view (λ (f : Finding). f.offset) c.in_ok-findings.findings.items
    ∙ ap by_place
    (c.in_ok-findings.ensures.findings before first
    ∙ ap (λ these. found these (map tile_view c.deref.result.now)) c.in_ok-syntax.ensures
    ∙ ap (λ these. found syntax (map tile_view these)) c.deref.ensures.value
    ∙ ap (found syntax) c.requires.tiles.parts)
