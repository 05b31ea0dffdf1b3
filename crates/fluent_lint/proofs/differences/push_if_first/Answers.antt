use Rattle.std.proofs.Common.{◌∙◌, ◌++◌, [], ap, append-nil, map, if◌then◌else◌, sym}
use Rattle.std.proofs.lemmas.Result.{on_ok_weaker}
use Rattle.lint_entries.specs.TileView.{tile_view}
use Rattle.lint_findings.specs.View.{finding_view}
use Rattle.fluent_lint.specs.Own.{compared_in}
use Rattle.fluent_lint.proofs.differences.push_if_first.Goals as goal

pub returns-then-branch-clause-added : goal.returns-then-branch-clause-added
returns-then-branch-clause-added c =
    let by = compared_in c.args.plurals c.args.file c.args.original (tile_view c.args.tile.now) in
    on_ok_weaker c.push_difference.result
    (λ added ids has. added ∙ ap (λ b. map finding_view c.args.findings.now.items ++ (if b then by else [])) (sym c.if-branch.true ∙ c.in_ok-is_first.ensures.first ids has))
    c.push_difference.ensures

pub returns-else-branch-clause-added : goal.returns-else-branch-clause-added
returns-else-branch-clause-added c = λ ids has.
    let by = compared_in c.args.plurals c.args.file c.args.original (tile_view c.args.tile.now) in
    sym (append-nil (map finding_view c.args.findings.now.items))
    ∙ ap (λ b. map finding_view c.args.findings.now.items ++ (if b then by else [])) (sym c.if-branch.false ∙ c.in_ok-is_first.ensures.first ids has)
