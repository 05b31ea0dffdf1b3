use Rattle.std.proofs.Common.{◌≡◌, drop}
use Rattle.std.specs.Prelude.{nat_le}
use Rattle.lint_findings.specs.Lengths as l
use Rattle.lint_markup.specs.InCode.{texts_of}
use Rattle.lint_texts.proofs.lengths.have_at_most.Given as goal

abbrev pub invariant-loop-text : goal.invariant-loop-text
invariant-loop-text s = nat_le (l.characters_of (texts_of (drop s.text-index s.texts))) s.left ≡ nat_le (l.characters_of (texts_of s.texts)) s.count
