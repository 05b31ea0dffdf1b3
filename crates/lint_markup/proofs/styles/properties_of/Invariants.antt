use Rattle.std.proofs.Common.{◌≡◌, ◌++◌, map, drop, option_map}
use Rattle.lint_findings.specs.Styles as s
use Rattle.lint_markup.specs.InCode.{property_view}
use Rattle.lint_markup.proofs.styles.properties_of.Given as goal

-- those of the parts so far were added
abbrev pub invariant-loop-part : goal.invariant-loop-part
invariant-loop-part l =
    option_map (λ ps. map property_view l.properties.items ++ ps) (s.properties_of (map (λ t. t.now) (drop l.part-index l.parts))) ≡ s.properties_of (map (λ t. t.now) l.parts)
