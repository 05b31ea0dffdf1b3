use Rattle.lint_entries.proofs.CommonIn.{by_rules}
use Rattle.lint_entries.proofs.nodes.push_node.Goals as goal

pub node_remarks-requires : goal.node_remarks-requires
node_remarks-requires c =
    let catalog = c.args.catalog.now in
    by_rules catalog.plurals catalog.common catalog.in_language
