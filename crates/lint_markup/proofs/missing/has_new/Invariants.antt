use Rattle.std.proofs.Common.{◌≡◌, drop}
use Rattle.lint_nodes.specs.HasNames.{texts}
use Rattle.lint_findings.specs.Comparison.{has_new}
use Rattle.lint_markup.specs.InCode.{texts_in}
use Rattle.lint_markup.proofs.missing.has_new.Given as goal

-- all names so far are known
abbrev pub invariant-loop-name : goal.invariant-loop-name
invariant-loop-name l = has_new (texts (drop l.name-index l.name-items)) (texts_in l.known) ≡ has_new (texts l.name-items) (texts_in l.known)
