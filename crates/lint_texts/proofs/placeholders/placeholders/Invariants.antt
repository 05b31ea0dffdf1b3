use Rattle.std.proofs.Common.{◌≡◌, ◌++◌, map, drop}
use Rattle.lint_findings.specs.Placeholders as p
use Rattle.lint_markup.specs.InCode.{texts_of}
use Rattle.lint_texts.specs.InCode.{placeholder_view}
use Rattle.lint_texts.proofs.placeholders.placeholders.Given as goal

-- those of the texts so far were added
abbrev pub invariant-loop-text : goal.invariant-loop-text
invariant-loop-text l =
    map placeholder_view l.found.items ++ p.placeholders (texts_of (drop l.text-index l.texts)) ≡ p.placeholders (texts_of l.texts)
