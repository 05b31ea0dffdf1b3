use Rattle.std.proofs.Common.{◌∙◌, ap, sym}
use Rattle.std.specs.Prelude.{is_some}
use Rattle.lint_findings.specs.Typing.{quote_in}
use Rattle.lint_markup.specs.InCode.{texts_of}
use Rattle.lint_texts.proofs.QuoteSteps.{found_some, mapped_some}
use Rattle.lint_texts.proofs.quotes.have_straight.Goals as goal

pub returns : goal.returns
returns c =
    c.is_some.ensures ∙ sym (mapped_some (λ s. s.now) c.in_ok-first.first) ∙ ap is_some c.in_ok-first.ensures ∙ found_some quote_in (texts_of c.args.texts.now)
