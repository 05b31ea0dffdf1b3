use Rattle.std.proofs.Common.{◌≡◌, ◌++◌, map, drop}
use Rattle.fluent_ast.specs.View.{named_view, nameds_of}
use Rattle.lint_findings.specs.Escapes.{named_escapes}
use Rattle.lint_flaws.proofs.escape_nodes.push_named.Given as goal

abbrev pub invariant-loop-argument : goal.invariant-loop-argument
invariant-loop-argument l =
    let view = named_view _ (λ s. s.now) in
    map (λ s. s.now) l.found.items ++ named_escapes (nameds_of (map view (drop l.argument-index l.arguments)))
    ≡ map (λ s. s.now) l.initial.found.items ++ named_escapes (nameds_of (map view l.arguments))
