use Rattle.std.proofs.Common.{◌≡◌, IfOk, Some, Option, sym, subst}
use Rattle.fluent_plurals.specs.declared.plurals.LanguagePlurals.{LanguagePlurals}
use Rattle.lint_findings.specs.EntryFindings as e
use Rattle.lint_flaws.specs.Common.{AreCommonBy}
use Rattle.lint_nodes.specs.NodeView.{node_view}
use Rattle.lint_nodes.specs.declared.nodes.Node.{Node}
use Rattle.lint_flaws.proofs.missing.node_categories.Goals as goal

pub returns-in-Some-Select : goal.returns-in-Some-Select
returns-in-Some-Select c =
    let s = c.in-Some-Select in
    let P : Option LanguagePlurals → Node → Type 0 =
    λ plurals node. IfOk c.missing_categories.result (λ missing. missing.items ≡ e.node_categories plurals (node_view node)) in
    let common = subst (λ plurals. AreCommonBy plurals c.args.common.now) s.is-0 c.requires in
    let missing : P (Some s.field-0-0) (Node.Select s.selector s.variants) = c.missing_categories.ensures s.field-0-0 common in
    subst (λ plurals. P plurals c.args.node) (sym s.is-0) (subst (P (Some s.field-0-0)) (sym s.is-1) missing)
