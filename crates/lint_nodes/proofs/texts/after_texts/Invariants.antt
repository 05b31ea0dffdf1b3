use Rattle.std.proofs.Common.{◌≡◌, length}
use Rattle.lint_nodes.specs.Rests as rests
use Rattle.lint_nodes.proofs.texts.after_texts.Given as goal

abbrev pub invariant-loop-stop : goal.invariant-loop-stop
invariant-loop-stop l = rests.after_texts l.rest ≡ rests.after_texts l.text

abbrev pub decreases-loop-stop : goal.decreases-loop-stop
decreases-loop-stop l = length l.rest
