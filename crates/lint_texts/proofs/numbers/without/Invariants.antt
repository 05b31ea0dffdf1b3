use Rattle.std.proofs.Common.{◌≡◌, ◌++◌, drop}
use Rattle.lint_nodes.specs.HasNames.{texts}
use Rattle.lint_findings.specs.Comparison.{without}
use Rattle.lint_markup.specs.InCode.{texts_in}
use Rattle.lint_texts.proofs.numbers.without.Given as goal

-- those so far were added
abbrev pub invariant-loop-name : goal.invariant-loop-name
invariant-loop-name l =
    texts l.left.items ++ without (texts (drop l.name-index l.names)) (texts_in l.others) ≡ without (texts l.names) (texts_in l.others)
