use Rattle.std.proofs.Common.{◌≡◌, drop}
use Rattle.lint_findings.specs.Markup as m
use Rattle.lint_markup.specs.InCode.{texts_of}
use Rattle.lint_markup.proofs.unbalanced.push_first.Given as goal

-- all texts so far close it
abbrev pub invariant-loop-text : goal.invariant-loop-text
invariant-loop-text l = (l.found.items ≡ l.initial.found.items) × (m.unbalanced l.element (texts_of (drop l.text-index l.texts)) ≡ m.unbalanced l.element (texts_of l.texts))
