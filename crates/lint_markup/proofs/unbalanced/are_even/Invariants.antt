use Rattle.std.proofs.Common.{◌≡◌, drop}
use Rattle.std.specs.List.{list_all}
use Rattle.lint_findings.specs.Markup as m
use Rattle.lint_markup.specs.InCode.{texts_of}
use Rattle.lint_markup.proofs.unbalanced.are_even.Given as goal

-- all texts so far are
abbrev pub invariant-loop-text : goal.invariant-loop-text
invariant-loop-text l = list_all (m.is_even l.element) (texts_of (drop l.text-index l.texts)) ≡ list_all (m.is_even l.element) (texts_of l.texts)
