use Rattle.std.proofs.Common.{◌∙◌, ◌++◌, ap, map}
use Rattle.lint_findings.specs.View.{remark_view}
use Rattle.lint_findings.specs.EntryFindings.{flaw_remark, node_flaws}
use Rattle.lint_flaws.specs.FlawView.{flaw_view}
use Rattle.lint_flaws.specs.Said.{known}
use Rattle.lint_flaws.proofs.Said.{one_flaw, pushed}
use Rattle.lint_nodes.specs.NodeView.{node_view}
use Rattle.lint_flaws.proofs.remarks.push_flaw.Goals as goal

pub returns-in_ok-push : goal.returns-in_ok-push
returns-in_ok-push c =
    let flaw = c.in-Some.flaw in
    let say = flaw_remark (known c.args.ids.now) (known c.args.reference.now) in
    pushed c.args.found.now.items c.push.new.self.items c.in_ok-remark.field-0 (say (flaw_view flaw)) c.in_ok-push.ensures.items c.in_ok-remark.ensures
    ∙ ap (λ l. map remark_view c.args.found.now.items ++ map say l)
    (one_flaw c.node_flaw.result flaw (node_flaws (known c.args.ids.now) (node_view c.args.node)) c.node_flaw.ensures c.in-Some.is)
