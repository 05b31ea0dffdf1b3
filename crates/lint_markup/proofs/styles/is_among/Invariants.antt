use Rattle.std.proofs.Common.{◌≡◌, map, drop}
use Rattle.std.specs.List.{list_any}
use Rattle.lint_findings.specs.Styles as s
use Rattle.lint_markup.specs.InCode.{property_view}
use Rattle.lint_markup.proofs.styles.is_among.Given as goal

-- none so far is the same
abbrev pub invariant-loop-other : goal.invariant-loop-other
invariant-loop-other l =
    let is = s.same_property (property_view l.property) in
    list_any is (map property_view (drop l.other-index l.properties)) ≡ list_any is (map property_view l.properties)
