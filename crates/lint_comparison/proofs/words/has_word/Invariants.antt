use Rattle.std.proofs.Common.{◌≡◌, length}
use Rattle.lint_findings.specs.WrittenTexts as w
use Rattle.lint_comparison.proofs.words.has_word.Given as goal

-- No word begins before what is left.
abbrev pub invariant-loop-byte : goal.invariant-loop-byte
invariant-loop-byte l = w.has_word_after l.before l.word l.rest ≡ w.has_word l.word l.text

abbrev pub decreases-loop-byte : goal.decreases-loop-byte
decreases-loop-byte l = length l.rest
