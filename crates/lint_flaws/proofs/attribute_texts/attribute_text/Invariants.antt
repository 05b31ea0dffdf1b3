use Rattle.std.proofs.Common.{◌≡◌, map, drop}
use Rattle.fluent_ast.specs.View.{attribute_view}
use Rattle.lint_findings.specs.Facts.{attribute_text}
use Rattle.lint_flaws.proofs.attribute_texts.attribute_text.Given as goal

-- none of the attributes so far has the name
abbrev pub invariant-loop-attribute : goal.invariant-loop-attribute
invariant-loop-attribute l =
    let view = attribute_view _ (λ s. s.now) in
    attribute_text l.name (map view (drop l.attribute-index l.attributes)) ≡ attribute_text l.name (map view l.attributes)
