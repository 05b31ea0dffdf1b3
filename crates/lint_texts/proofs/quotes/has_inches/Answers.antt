use Rattle.std.proofs.Common.{◌∙◌, sym, ap}
use Rattle.lint_texts.specs.Quotes.{begins_inches}
use Rattle.lint_texts.proofs.QuoteSteps.{inches_passed}
use Rattle.lint_texts.proofs.quotes.has_inches.Goals as goal

pub loop-place-preserved : goal.loop-place-preserved
loop-place-preserved c =
    inches_passed c.args.text.now c.loop-place.place c.loop-place-test.true (ap begins_inches (sym c.skip.ensures) ∙ sym c.begins_inches.ensures ∙ c.if-begins_inches.false)
    ∙ c.loop-place.invariant
