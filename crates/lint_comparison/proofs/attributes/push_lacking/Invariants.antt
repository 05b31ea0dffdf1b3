use Rattle.std.proofs.Common.{◌≡◌, ◌++◌, List, map, take}
use Rattle.fluent_ast.specs.Borrowed.{attributes_of}
use Rattle.lint_nodes.specs.HasNames.{HasNames}
use Rattle.lint_comparison.specs.Lacks.{lacking}
use Rattle.lint_comparison.specs.LackingAttributes.{names_of}
use Rattle.lint_findings.specs.DifferenceView.{difference_view}
use Rattle.fluent_grammar.specs.Words.{Text}
use Rattle.lint_comparison.proofs.attributes.push_lacking.Given as goal

-- those of the attributes so far were added
abbrev pub invariant-loop-attribute : goal.invariant-loop-attribute
invariant-loop-attribute l = (ys : List Text) → HasNames l.names ys →
    map difference_view l.found.items ≡ map difference_view l.fn.found.items ++ lacking l.lack (names_of (attributes_of (take l.attribute-index l.attributes))) ys
