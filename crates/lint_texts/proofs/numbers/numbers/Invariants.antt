use Rattle.std.proofs.Common.{◌≡◌, ◌++◌, map, drop}
use Rattle.lint_findings.specs.Numbers as n
use Rattle.lint_markup.specs.InCode.{texts_of}
use Rattle.lint_texts.specs.InCode.{number_view}
use Rattle.lint_texts.proofs.numbers.numbers.Given as goal

-- those of the texts so far were added
abbrev pub invariant-loop-text : goal.invariant-loop-text
invariant-loop-text l = map number_view l.found.items ++ n.numbers (texts_of (drop l.text-index l.texts)) ≡ n.numbers (texts_of l.texts)
