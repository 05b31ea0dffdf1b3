use Rattle.std.proofs.Common.{◌≡◌, map, drop}
use Rattle.fluent_ast.specs.View.{attribute_view}
use Rattle.lint_comparison.specs.InCode.{attributes_show}
use Rattle.lint_comparison.proofs.shown.attributes_show.Given as goal

-- none of the attributes so far shows it
abbrev pub invariant-loop-attribute : goal.invariant-loop-attribute
invariant-loop-attribute l =
    let view = attribute_view _ (λ s. s.now) in
    attributes_show (map view (drop l.attribute-index l.attributes)) l.name ≡ attributes_show (map view l.attributes) l.name
