use Rattle.std.proofs.Common.{◌≡◌, List, drop}
use Rattle.fluent_grammar.specs.Words.{Text}
use Rattle.lint_nodes.specs.HasNames.{HasNames, texts}
use Rattle.lint_findings.specs.Comparison.{has_new}
use Rattle.lint_comparison.proofs.compared.has_new.Given as goal

-- none of the names so far is new
abbrev pub invariant-loop-name : goal.invariant-loop-name
invariant-loop-name l = (ys : List Text) → HasNames l.others ys → has_new (texts (drop l.name-index l.names)) ys ≡ has_new (texts l.names) ys
