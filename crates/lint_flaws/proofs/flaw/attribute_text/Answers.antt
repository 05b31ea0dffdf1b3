use Rattle.std.proofs.Common.{◌≡◌, ◌∙◌, ◌∷◌, ◌++◌, codes, sym, ap, append_assoc}
use Rattle.std.proofs.lemmas.Result.{IfOk-weaker}
use Rattle.fluent_grammar.specs.Words.{Text, dot}
use Rattle.lint_findings.specs.FlawWords.{attribute_text}
use Rattle.lint_flaws.proofs.flaw.attribute_text.Goals as goal

-- from left to right
text_is : (sign id name : Text) → codes "there is no attribute `" ++ (sign ++ (id ++ (codes "." ++ (name ++ codes "`")))) ≡ attribute_text sign id name
text_is sign id name =
    ap (λ t. codes "there is no attribute `" ++ t)
    (ap (λ t. sign ++ t) (sym (append_assoc id (dot ∷ name) (codes "`"))) ∙ sym (append_assoc sign (id ++ dot ∷ name) (codes "`")))

pub returns : goal.returns
returns c = IfOk-weaker c.format.result _ _ (λ text is. is ∙ text_is c.args.sign.now c.args.id.now c.args.name.now) c.format.ensures.ok
