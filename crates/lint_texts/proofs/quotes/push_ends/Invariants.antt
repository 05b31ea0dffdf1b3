use Rattle.std.proofs.Common.{◌≡◌, ◌++◌, drop, map}
use Rattle.std.specs.List.{flat_map}
use Rattle.lint_findings.specs.Typing as t
use Rattle.lint_texts.proofs.quotes.push_ends.Given as goal

-- those of the parts so far were added
abbrev pub invariant-loop-part : goal.invariant-loop-part
invariant-loop-part l = map (λ s. s.now) l.ends.items ++ flat_map t.curly_from (map (λ s. s.now) (drop l.part-index l.parts)) ≡ map (λ s. s.now) l.initial.ends.items ++ flat_map t.curly_from (map (λ s. s.now) l.parts)
