use Rattle.std.proofs.Common.{◌≡◌, ◌∙◌, ◌++◌, codes, sym, ap, append_assoc}
use Rattle.fluent_grammar.specs.Words.{Text}
use Rattle.lint_findings.specs.Finding as f
use Rattle.lint_findings.specs.SyntaxErrors.{in_backticks}
use Rattle.lint_texts.proofs.quotes.unpaired_remark.Goals as goal

-- from left to right
words_are : (s : Text) → codes "`" ++ (s ++ codes "` has no partner") ≡ in_backticks s ++ codes " has no partner"
words_are s = ap (λ t. codes "`" ++ t) (sym (append_assoc s (codes "`") (codes " has no partner")))

pub returns : goal.returns
returns c =
    c.note.ensures ∙ ap (λ (text : Text). f.remark f.note (codes "unpaired-quote") text) (c.in_ok-text.ensures.ok ∙ words_are c.args.quote.now)
