use Rattle.std.proofs.Common.{◌≡◌, ◌+◌, ◌≤◌, drop, map}
use Rattle.lint_findings.specs.Scripts as s
use Rattle.lint_flaws.specs.Letters.{letter_view, script_view}
use Rattle.lint_flaws.proofs.scripts.count.Given as goal

abbrev pub invariant-loop-letter : goal.invariant-loop-letter
invariant-loop-letter l =
    (l.count ≤ l.letter-index)
    × (l.count + s.count (script_view l.script) (map letter_view (drop l.letter-index l.letters)) ≡ s.count (script_view l.script) (map letter_view l.letters))
