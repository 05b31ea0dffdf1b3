use Rattle.std.proofs.Common.{◌≡◌, map, drop}
use Rattle.fluent_ast.specs.View.{variant_view, variants_of}
use Rattle.fluent_meaning.specs.Choice.{first_match}
use Rattle.fluent_value.specs.View.{value_view}
use Rattle.fluent_progress.proofs.variant.first_match.Given as goal

-- no key of the variants so far matches
abbrev pub invariant-loop-variant : goal.invariant-loop-variant
invariant-loop-variant g l =
    let view = variant_view _ (λ s. s.now) in
    let value = value_view g.C.FluentType.meaning l.value in
    let plurals = g.V.ValueScope.plurals l.scope in
    first_match plurals value (variants_of (map view (drop l.variant-index l.variants))) ≡ first_match plurals value (variants_of (map view l.variants))
