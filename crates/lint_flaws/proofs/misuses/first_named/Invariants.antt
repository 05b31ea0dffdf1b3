use Rattle.std.proofs.Common.{◌≡◌, map, drop}
use Rattle.fluent_ast.specs.View.{named_view, nameds_of}
use Rattle.lint_findings.specs.Misuses.{first_named}
use Rattle.lint_flaws.specs.BuiltinView.{texts}
use Rattle.lint_flaws.proofs.misuses.first_named.Given as goal

-- none of the arguments so far has one of the names
abbrev pub invariant-loop-argument : goal.invariant-loop-argument
invariant-loop-argument l =
    let view = named_view _ (λ s. s.now) in
    first_named (nameds_of (map view (drop l.argument-index l.named))) (texts l.names) ≡ first_named (nameds_of (map view l.named)) (texts l.names)
