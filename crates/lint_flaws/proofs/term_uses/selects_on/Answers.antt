use Rattle.std.proofs.Common.{◌≡◌, ◌∙◌, count_by, rules}
use Rattle.lint_findings.specs.TermUses.{is_select_on}
use Rattle.lint_nodes.specs.NodeView.{node_view}
use Rattle.lint_flaws.proofs.NodesCounted.{nodes_counted}
use Rattle.lint_flaws.proofs.term_uses.selects_on.Goals as goal

pub returns : goal.returns
returns c =
    let counted : c.count.result ≡ count_by (λ node. is_select_on c.args.name.now (node_view node)) c.args.nodes.now = search rules in
    counted ∙ nodes_counted (is_select_on c.args.name.now) c.args.nodes.now
