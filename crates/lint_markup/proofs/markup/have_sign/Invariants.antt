use Rattle.std.proofs.Common.{◌≡◌, drop}
use Rattle.std.specs.List.{list_any}
use Rattle.lint_findings.specs.Markup.{has_sign}
use Rattle.lint_markup.specs.InCode.{texts_of}
use Rattle.lint_markup.proofs.markup.have_sign.Given as goal

-- none of the texts so far has one
abbrev pub invariant-loop-text : goal.invariant-loop-text
invariant-loop-text l = list_any has_sign (texts_of (drop l.text-index l.texts)) ≡ list_any has_sign (texts_of l.texts)
