use Rattle.std.proofs.Common.{◌≡◌, List, ◌++◌, map, drop}
use Rattle.fluent_ast.specs.View.{Named, named_view, nameds_of}
use Rattle.lint_findings.specs.View.{remark_view}
use Rattle.lint_findings.specs.Facts.{fact_remark, named_facts}
use Rattle.lint_nodes.specs.NodeView.{node_view}
use Rattle.lint_flaws.proofs.facts.push_named.Given as goal

abbrev pub invariant-loop-argument : goal.invariant-loop-argument
invariant-loop-argument l =
    let view = named_view _ (λ s. s.now) in
    let facts = λ (ns : List Named). map fact_remark (named_facts l.id (map node_view l.nodes) (nameds_of ns)) in
    map remark_view l.found.items ++ facts (map view (drop l.argument-index l.named)) ≡ map remark_view l.initial.found.items ++ facts (map view l.named)
