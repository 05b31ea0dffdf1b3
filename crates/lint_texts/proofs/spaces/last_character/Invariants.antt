use Rattle.std.proofs.Common.{◌≡◌, ◌≤◌, true, drop, length}
use Rattle.std.specs.List.{list_all}
use Rattle.fluent_grammar.specs.Words.{is_between}
use Rattle.lint_texts.proofs.spaces.last_character.Given as goal

-- what follows so far belongs to one character
abbrev pub invariant-loop-place : goal.invariant-loop-place
invariant-loop-place l = (l.place ≤ length l.text) × (list_all (is_between 0x80 0xBF) (drop l.place l.text) ≡ true)

abbrev pub decreases-loop-place : goal.decreases-loop-place
decreases-loop-place l = l.place
