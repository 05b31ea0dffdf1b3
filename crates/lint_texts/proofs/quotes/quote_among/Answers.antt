use Rattle.std.proofs.Common.{◌∙◌, ◌∷◌, [], sym, Bor}
use Rattle.fluent_grammar.specs.Words.{Text, quote}
use Rattle.lint_findings.specs.Typing as t
use Rattle.lint_texts.proofs.Passing.{found_here, found_later}
use Rattle.lint_texts.proofs.quotes.quote_among.Goals as goal

pub loop-part-preserved : goal.loop-part-preserved
loop-part-preserved c =
    found_later (λ (s : Bor Text). s.now) c.args.parts.now c.loop-part.part-index _ c.loop-part-test.true (t.from_text (quote ∷ [])) (sym c.in_default.ensures) ∙ c.loop-part.invariant

pub returns-in-Some : goal.returns-in-Some
returns-in-Some c =
    sym (found_here (λ (s : Bor Text). s.now) c.args.parts.now c.loop-part.part-index _ c.loop-part-test.true (t.from_text (quote ∷ [])) c.in-Some.at.now (sym c.in-Some.ensures)) ∙ c.loop-part.invariant
