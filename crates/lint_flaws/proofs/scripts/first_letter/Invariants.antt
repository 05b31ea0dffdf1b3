use Rattle.std.proofs.Common.{◌≡◌, drop, map}
use Rattle.lint_findings.specs.Scripts as s
use Rattle.lint_flaws.specs.Letters.{letter_view, script_view}
use Rattle.lint_flaws.proofs.scripts.first_letter.Given as goal

-- there is none so far
abbrev pub invariant-loop-letter : goal.invariant-loop-letter
invariant-loop-letter l =
    s.first_letter (script_view l.script) (map letter_view (drop l.letter-index l.letters)) ≡ s.first_letter (script_view l.script) (map letter_view l.letters)
