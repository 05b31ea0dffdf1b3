use Rattle.std.proofs.Common.{◌≡◌, map, drop}
use Rattle.fluent_ast.specs.View.{attribute_view}
use Rattle.fluent_meaning.specs.Ids as ids
use Rattle.lint_flaws.proofs.nodes.has_attribute.Given as goal

-- none of the attributes so far has the name
abbrev pub invariant-loop-attribute : goal.invariant-loop-attribute
invariant-loop-attribute l =
    let view = attribute_view _ (λ s. s.now) in
    ids.attribute_named l.name (map view (drop l.attribute-index l.attributes)) ≡ ids.attribute_named l.name (map view l.attributes)
