use Rattle.std.proofs.Common.{◌≡◌, ◌∙◌, ◌∷◌, ◌++◌, ap, sym, append_assoc}
use Rattle.std.specs.Prelude.{codes}
use Rattle.std.proofs.lemmas.Result.{IfOk-weaker}
use Rattle.fluent_grammar.specs.Words.{Text}
use Rattle.lint_findings.specs.SyntaxErrors.{in_backticks}
use Rattle.lint_comparison.proofs.loss.written_out.Goals as goal

said : (s : Text) → codes "`" ++ (s ++ codes "` is written out") ≡ in_backticks s ++ codes " is written out"
said s = ap (λ t. 96 ∷ t) (sym (append_assoc s (codes "`") (codes " is written out")))

pub returns : goal.returns
returns c = IfOk-weaker c.format.result _ _ (λ text is. is ∙ said c.args.text.now) c.format.ensures.ok
