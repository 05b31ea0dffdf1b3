use Rattle.std.proofs.Common.{◌≡◌, ◌++◌, List, map, take}
use Rattle.lint_nodes.specs.HasNames.{HasNames, texts}
use Rattle.lint_comparison.specs.Lacks.{lacking}
use Rattle.lint_findings.specs.DifferenceView.{difference_view}
use Rattle.fluent_grammar.specs.Words.{Text}
use Rattle.lint_comparison.proofs.lack.Lack.push_new.Given as goal

-- those of the names so far were added
abbrev pub invariant-loop-name : goal.invariant-loop-name
invariant-loop-name l = (ys : List Text) → HasNames l.others ys →
    map difference_view l.found.items ≡ map difference_view l.fn.found.items ++ lacking l.self (texts (take l.name-index l.names)) ys
