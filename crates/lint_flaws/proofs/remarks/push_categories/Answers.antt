use Rattle.std.proofs.Common.{◌∙◌, ◌++◌, ap, map}
use Rattle.std.proofs.lemmas.Result.{on_ok_weaker}
use Rattle.lint_findings.specs.EntryFindings.{category_remark, shows_number}
use Rattle.lint_findings.specs.View.{remark_view}
use Rattle.lint_nodes.specs.NodeView.{node_view}
use Rattle.lint_flaws.proofs.remarks.push_categories.Goals as goal

pub returns : goal.returns
returns c =
    let items = c.deref.result.now in
    let shown = shows_number (node_view c.args.node) in
    on_ok_weaker c.push_missing.result
    (λ added. added ∙ ap (λ l. map remark_view c.args.found.now.items ++ l)
    (ap (λ b. map (category_remark b) items) c.shows_number.ensures
    ∙ ap (map (category_remark shown)) (c.deref.ensures.value ∙ c.in_ok-categories.ensures)))
    c.push_missing.ensures
