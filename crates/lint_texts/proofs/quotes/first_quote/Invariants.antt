use Rattle.std.proofs.Common.{◌≡◌, drop}
use Rattle.lint_findings.specs.Typing as t
use Rattle.lint_markup.specs.InCode.{texts_of}
use Rattle.lint_texts.proofs.quotes.first_quote.Given as goal

-- none so far has
abbrev pub invariant-loop-text : goal.invariant-loop-text
invariant-loop-text l = t.first_found t.quote_in (texts_of (drop l.text-index l.texts)) ≡ t.first_found t.quote_in (texts_of l.texts)
