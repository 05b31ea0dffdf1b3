use Rattle.std.proofs.Common.{◌≡◌, drop}
use Rattle.lint_comparison.specs.WrittenView.{first_written_in}
use Rattle.lint_comparison.proofs.written.first_written.Given as goal

-- none of the texts so far is written out
abbrev pub invariant-loop-text : goal.invariant-loop-text
invariant-loop-text l = first_written_in l.message l.other (drop l.text-index l.texts) ≡ first_written_in l.message l.other l.texts
