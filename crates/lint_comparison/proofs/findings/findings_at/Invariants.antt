use Rattle.std.proofs.Common.{◌≡◌, List, map, take}
use Rattle.lint_findings.specs.DifferenceView.{difference_view}
use Rattle.lint_findings.specs.View.{finding_view}
use Rattle.lint_findings.specs.ComparisonFindings.{difference_finding}
use Rattle.fluent_grammar.specs.Words.{Text}
use Rattle.lint_nodes.specs.HasNames.{HasNames}
use Rattle.lint_comparison.proofs.findings.findings_at.Given as goal

-- those of the differences so far
abbrev pub invariant-loop-difference : goal.invariant-loop-difference
invariant-loop-difference l = (known : List Text) → HasNames l.variables known →
    map finding_view l.findings.items ≡ map (difference_finding l.source l.id l.text known) (map difference_view (take l.difference-index l.differences))
