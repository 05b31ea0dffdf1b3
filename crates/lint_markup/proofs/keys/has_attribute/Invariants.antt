use Rattle.std.proofs.Common.{◌≡◌, map, drop}
use Rattle.fluent_ast.specs.View.{attribute_view}
use Rattle.lint_findings.specs.Keys as k
use Rattle.lint_markup.proofs.keys.has_attribute.Given as goal

-- none of the attributes so far has the name
abbrev pub invariant-loop-attribute : goal.invariant-loop-attribute
invariant-loop-attribute l =
    let view = attribute_view _ (λ s. s.now) in
    k.has_attribute l.name (map view (drop l.attribute-index l.attributes)) ≡ k.has_attribute l.name (map view l.attributes)
