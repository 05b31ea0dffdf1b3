use Rattle.std.proofs.Common.{◌≡◌, drop, map}
use Rattle.fluent_ast.specs.View.{named_view, nameds_of}
use Rattle.fluent_calls.specs.Gathering.{are_literals}
use Rattle.fluent_calls.proofs.plain.are_literals.Given as goal

-- All are literals if those that are left are.
abbrev pub invariant-loop-argument : goal.invariant-loop-argument
invariant-loop-argument l =
    let view = named_view _ (λ s. s.now) in
    are_literals (nameds_of (map view (drop l.argument-index l.arguments))) ≡ are_literals (nameds_of (map view l.arguments))
