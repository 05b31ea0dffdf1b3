use Rattle.std.proofs.Common.{◌≡◌, ℕ, List, Bor, length, ap, sym, ◌∙◌, refl, rules}
use Rattle.fluent_ast.proofs.Views.{pattern_view-out}
use Rattle.fluent_ast.specs.View.{element_view}
use Rattle.fluent_ast.specs.declared.Pattern.{out-Pattern}
use Rattle.fluent_meaning.proofs.Opening.{several-is}
use Rattle.fluent_meaning.specs.Substitution.{several}
use Rattle.fluent_progress.proofs.marks.has_several.Goals as goal

pub returns : goal.returns
returns c =
    let items = (out-Pattern (Bor (List ℕ)) c.args.pattern.now).elements.items in
    let counted : c.len.result ≡ length items = search rules in
    sym (ap several (pattern_view-out (Bor (List ℕ)) (λ s. s.now) c.args.pattern.now) ∙ several-is (element_view (Bor (List ℕ)) (λ s. s.now)) items c.len.result _ counted refl)
