use Rattle.std.proofs.Common.{◌≡◌, ◌++◌, map, drop}
use Rattle.lint_findings.specs.Addresses as a
use Rattle.lint_markup.specs.InCode.{texts_of}
use Rattle.lint_texts.specs.InCode.{address_view}
use Rattle.lint_texts.proofs.addresses.addresses.Given as goal

-- those of the texts so far were added
abbrev pub invariant-loop-text : goal.invariant-loop-text
invariant-loop-text l = map address_view l.addresses.items ++ a.addresses (texts_of (drop l.text-index l.texts)) ≡ a.addresses (texts_of l.texts)
