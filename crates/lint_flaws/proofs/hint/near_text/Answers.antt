use Rattle.std.proofs.Common.{◌≡◌, ◌∙◌, ◌++◌, codes, sym, ap, append_assoc}
use Rattle.std.proofs.lemmas.Result.{IfOk-weaker}
use Rattle.fluent_grammar.specs.Words.{Text}
use Rattle.lint_findings.specs.NearNames.{near_text}
use Rattle.lint_flaws.proofs.hint.near_text.Goals as goal

-- from left to right
text_is : (sign name : Text) → codes "did you mean `" ++ (sign ++ (name ++ codes "`?")) ≡ near_text sign name
text_is sign name =
    ap (λ t. codes "did you mean `" ++ t) (sym (append_assoc (sign ++ name) (codes "`") (codes "?") ∙ append_assoc sign name (codes "`?")))

pub returns : goal.returns
returns c = IfOk-weaker c.format.result _ _ (λ text is. is ∙ text_is c.args.sign.now c.args.near.now) c.format.ensures.ok
