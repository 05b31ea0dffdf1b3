use Rattle.std.proofs.Common.{◌≡◌, drop, map}
use Rattle.fluent_ast.specs.View.{inline_view, inlines_of}
use Rattle.fluent_calls.specs.Gathering.{are_plain}
use Rattle.fluent_calls.proofs.plain.+plain.Given as goal

-- All are plain if those that are left are.
abbrev pub invariant-are_plain-loop-argument : goal.invariant-are_plain-loop-argument
invariant-are_plain-loop-argument l =
    let view = inline_view _ (λ s. s.now) in
    are_plain (inlines_of (map view (drop l.argument-index l.arguments))) ≡ are_plain (inlines_of (map view l.arguments))
