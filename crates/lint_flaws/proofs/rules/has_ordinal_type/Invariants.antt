use Rattle.std.proofs.Common.{◌≡◌, map, drop}
use Rattle.fluent_ast.specs.View.{named_view, nameds_of}
use Rattle.lint_findings.specs.MissingCategories as m
use Rattle.lint_flaws.proofs.rules.has_ordinal_type.Given as goal

-- none of the arguments so far is it
abbrev pub invariant-loop-argument : goal.invariant-loop-argument
invariant-loop-argument l =
    let view = named_view _ (λ s. s.now) in
    m.has_ordinal_type (nameds_of (map view (drop l.argument-index l.named))) ≡ m.has_ordinal_type (nameds_of (map view l.named))
