use Rattle.std.proofs.Common.{◌≡◌, drop}
use Rattle.lint_findings.specs.Doubled.{doubled_in}
use Rattle.lint_findings.specs.Typing.{first_found}
use Rattle.lint_markup.specs.InCode.{texts_of}
use Rattle.lint_texts.proofs.doubled.first_doubled.Given as goal

-- none so far has
abbrev pub invariant-loop-text : goal.invariant-loop-text
invariant-loop-text l = first_found doubled_in (texts_of (drop l.text-index l.texts)) ≡ first_found doubled_in (texts_of l.texts)
