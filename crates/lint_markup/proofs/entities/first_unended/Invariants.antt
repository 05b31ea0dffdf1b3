use Rattle.std.proofs.Common.{◌≡◌, drop}
use Rattle.lint_findings.specs.Entities as e
use Rattle.lint_markup.specs.InCode.{texts_of}
use Rattle.lint_markup.proofs.entities.first_unended.Given as goal

-- none of the texts so far has one
abbrev pub invariant-loop-text : goal.invariant-loop-text
invariant-loop-text l = e.first_unended (texts_of (drop l.text-index l.texts)) ≡ e.first_unended (texts_of l.texts)
