use Rattle.std.proofs.Common.{◌∙◌, ap, sym}
use Rattle.std.specs.Prelude.{option_map}
use Rattle.lint_markup.specs.InCode.{texts_of}
use Rattle.lint_texts.proofs.QuoteSteps.{odd_curly}
use Rattle.lint_texts.proofs.quotes.push_unpaired_quotes.Goals as goal

pub push_unpaired-requires : goal.push_unpaired-requires
push_unpaired-requires c =
    odd_curly (texts_of c.args.texts.now) c.in-Some.at.now (sym c.in_ok-at.ensures ∙ ap (option_map (λ s. s.now)) c.in-Some.is)
