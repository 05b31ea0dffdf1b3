use Rattle.std.proofs.Common.{◌≡◌, ◌++◌, ◌-◌, drop, length, map}
use Rattle.lint_findings.specs.Typing as t
use Rattle.lint_texts.proofs.quotes.push_curly.Given as goal

-- those so far were added
abbrev pub invariant-loop-next : goal.invariant-loop-next
invariant-loop-next l = map (λ s. s.now) l.ends.items ++ t.curly_from (drop l.place l.text) ≡ map (λ s. s.now) l.initial.ends.items ++ t.curly_from l.text

abbrev pub decreases-loop-next : goal.decreases-loop-next
decreases-loop-next l = length l.text - l.place
