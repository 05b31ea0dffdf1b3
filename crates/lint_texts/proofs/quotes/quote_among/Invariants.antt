use Rattle.std.proofs.Common.{◌≡◌, ◌∷◌, [], drop, map}
use Rattle.fluent_grammar.specs.Words.{quote}
use Rattle.lint_findings.specs.Typing as t
use Rattle.lint_texts.proofs.quotes.quote_among.Given as goal

-- none so far has
abbrev pub invariant-loop-part : goal.invariant-loop-part
invariant-loop-part l = t.first_found (t.from_text (quote ∷ [])) (map (λ s. s.now) (drop l.part-index l.parts)) ≡ t.first_found (t.from_text (quote ∷ [])) (map (λ s. s.now) l.parts)
