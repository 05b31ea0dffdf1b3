use Rattle.std.proofs.Common.{◌≡◌, drop}
use Rattle.std.specs.List.{list_any}
use Rattle.lint_findings.specs.Doubled.{has_doubled}
use Rattle.lint_markup.specs.InCode.{texts_of}
use Rattle.lint_texts.proofs.doubled.have_doubled.Given as goal

-- none so far has
abbrev pub invariant-loop-text : goal.invariant-loop-text
invariant-loop-text l = list_any has_doubled (texts_of (drop l.text-index l.texts)) ≡ list_any has_doubled (texts_of l.texts)
