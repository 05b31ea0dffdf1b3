use Rattle.std.proofs.Common.{◌≡◌, map, drop}
use Rattle.lint_findings.specs.Styles as s
use Rattle.lint_markup.specs.InCode.{property_view}
use Rattle.lint_markup.proofs.styles.are_among.Given as goal

-- all properties so far are
abbrev pub invariant-loop-property : goal.invariant-loop-property
invariant-loop-property l =
    s.all_among (map property_view (drop l.property-index l.mine)) (map property_view l.theirs) ≡ s.all_among (map property_view l.mine) (map property_view l.theirs)
