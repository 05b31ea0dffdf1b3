use Rattle.std.proofs.Common.{◌≡◌, ◌∙◌, ◌++◌, codes, string_bytes, refl, sym, ap, append_assoc}
use Rattle.fluent_grammar.specs.Words.{Text}
use Rattle.lint_findings.specs.Doubts.{doubt_remark}
use Rattle.lint_findings.specs.Finding as f
use Rattle.lint_findings.specs.SyntaxErrors.{in_backticks}
use Rattle.lint_markup.specs.InCode.{code_of, long_doubt}
use Rattle.lint_markup.specs.declared.keys.Key.{Key}
use Rattle.lint_markup.specs.declared.keys.Key.TheVariants as key
use Rattle.lint_markup.proofs.keys.long_remark.Goals as goal

long_said : (k : Key) (s : Text) → f.remark f.warning (code_of k) (in_backticks s ++ codes " has more than one character") ≡ doubt_remark (long_doubt k s)
long_said key.Access s = refl
long_said key.Command s = refl

-- from left to right
words_are : (s : Text) → codes "`" ++ (s ++ codes "` has more than one character") ≡ in_backticks s ++ codes " has more than one character"
words_are s = ap (λ t. codes "`" ++ t) (sym (append_assoc s (codes "`") (codes " has more than one character")))

pub returns : goal.returns
returns c =
    c.warning.ensures
    ∙ ap (λ (code : Text). f.remark f.warning code (string_bytes c.in_ok-words.words)) c.code.ensures
    ∙ ap (λ (text : Text). f.remark f.warning (code_of c.args.key) text) (c.in_ok-words.ensures.ok ∙ words_are c.args.text.now)
    ∙ long_said c.args.key c.args.text.now
