use Rattle.std.proofs.Common.{◌≡◌, map, drop}
use Rattle.fluent_ast.specs.View.{attribute_view}
use Rattle.lint_comparison.specs.WordView.{attributes_have}
use Rattle.lint_comparison.proofs.words.attributes_have.Given as goal

-- none of the attributes so far has it
abbrev pub invariant-loop-attribute : goal.invariant-loop-attribute
invariant-loop-attribute l =
    let view = attribute_view _ (λ s. s.now) in
    attributes_have (map view (drop l.attribute-index l.attributes)) l.word ≡ attributes_have (map view l.attributes) l.word
