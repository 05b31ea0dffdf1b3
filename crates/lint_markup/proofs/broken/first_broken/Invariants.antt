use Rattle.std.proofs.Common.{◌≡◌, drop}
use Rattle.lint_findings.specs.Tags as t
use Rattle.lint_markup.specs.InCode.{texts_of}
use Rattle.lint_markup.proofs.broken.first_broken.Given as goal

-- none of the texts so far has one
abbrev pub invariant-loop-text : goal.invariant-loop-text
invariant-loop-text l = t.first_broken l.all (texts_of (drop l.text-index l.texts)) ≡ t.first_broken l.all (texts_of l.texts)
