use Rattle.std.proofs.Common.{◌∙◌, [], ap, map}
use Rattle.std.proofs.lemmas.Result.{IfOk-weaker}
use Rattle.lint_entries.specs.TileView.{tile_view}
use Rattle.lint_files.specs.PartFindings.{findings_of_parts}
use Rattle.lint_files.specs.RulesView.{rules_view}
use Rattle.lint_findings.specs.View.{file_view}
use Rattle.lint_findings.specs.SyntaxFindings.{syntax_findings}
use Rattle.lint_findings.specs.Tiles.{tiles}
use Rattle.fluent_lint.proofs.pairs.found_in_file.Goals as goal

pub returns : goal.returns
returns c =
    let file = file_view c.args.file.now.file in
    let found = findings_of_parts (rules_view c.args.rules.now) file [] in
    let syntax = syntax_findings (tiles file.source) in
    IfOk-weaker c.file_findings.result _ _
    (λ these are. are [] c.new-declarations.ensures
    ∙ ap (λ first. found first (map tile_view c.deref.result.now)) c.in_ok-syntax.ensures
    ∙ ap (λ parts. found syntax (map tile_view parts)) c.deref.ensures.value
    ∙ ap (found syntax) c.requires.parts)
    c.file_findings.ensures.findings
